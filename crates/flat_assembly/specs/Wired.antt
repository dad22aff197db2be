-- Wired nets at terminals of bidirectional switches, which are refused.
use Rattle.std.specs.Prelude.{ℕ, Bool, true, false, List}
use Rattle.level_range.specs.declared.range.Kind.{Kind}
use Rattle.level_range.specs.declared.range.Kind.TheVariants.{Plain, And, Or}
use Rattle.v_tree.specs.declared.locations.Location.{Location}
use Rattle.rule_places.specs.Places.{places_where}
use Rattle.flat_net.specs.Islands.{combination_kind}
use Rattle.net_islands.specs.declared.parts.NetClass.{NetClass}
use Rattle.flat_assembly.specs.Assembly.{class_at}

abbrev pub is_wired_kind : Kind → Bool
is_wired_kind Plain = false
is_wired_kind And = true
is_wired_kind Or = true

abbrev pub is_wired : NetClass → Bool
is_wired class = is_wired_kind (combination_kind class.kind)

-- the first tokens of terminals that are wired nets
abbrev pub wired_places : List NetClass → List (ℕ × Location) → List Location
wired_places classes terminals = places_where (λ (t : ℕ × Location). is_wired (class_at classes t.0)) (λ (t : ℕ × Location). t.1) terminals
