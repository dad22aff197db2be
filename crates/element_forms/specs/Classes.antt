-- The kinds and charges of declared nets (IEEE 1364-2005, 4.6 and 4.4.1).
use Rattle.std.specs.Prelude.{ℕ}
use Rattle.v_tree.specs.declared.declarations.NetType.{NetType}
use Rattle.v_tree.specs.declared.declarations.NetType.TheVariants as type
use Rattle.v_tree.specs.declared.drives.Charge.{Charge}
use Rattle.v_tree.specs.declared.drives.Charge.TheVariants as charge
use Rattle.module_scope.specs.declared.roles.NetKind.{NetKind as DeclaredKind}
use Rattle.module_scope.specs.declared.roles.NetKind.TheVariants.{Typed, Trireg as TriregKind}
use Rattle.flat_net.specs.declared.kinds.NetKind.{NetKind}
use Rattle.flat_net.specs.declared.kinds.NetKind.TheVariants.{Wire, And, Or, Tri0, Tri1, Supply0, Supply1, Trireg}
use Rattle.net_islands.specs.declared.parts.NetClass.{NetClass}

abbrev pub type_kind : NetType → NetKind
type_kind type.Wire = Wire
type_kind type.Tri = Wire
type_kind type.Wand = And
type_kind type.Triand = And
type_kind type.Wor = Or
type_kind type.Trior = Or
type_kind type.Tri0 = Tri0
type_kind type.Tri1 = Tri1
type_kind type.Supply0 = Supply0
type_kind type.Supply1 = Supply1

abbrev pub charge_level : Charge → ℕ
charge_level charge.Small = 1
charge_level charge.Medium = 2
charge_level charge.Large = 4

abbrev pub net_class : DeclaredKind → NetClass
net_class (Typed t) = record { kind = type_kind t; charge = 0 }
net_class (TriregKind c) = record { kind = Trireg; charge = charge_level c }
