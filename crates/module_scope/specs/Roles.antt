-- What the mentions of a name say of it, told apart.
use Rattle.std.specs.Prelude.{ℕ, Bool, true, false, ◌||◌, List, [], ◌∷◌, Option, Some, None, if◌then◌else◌}
use Rattle.std.specs.Option.{option_or}
use Rattle.v_tree.specs.declared.declarations.Direction.{Direction}
use Rattle.v_tree.specs.declared.declarations.NetType.{NetType}
use Rattle.v_tree.specs.declared.expressions.RangeBounds.{RangeBounds}
use Rattle.module_scope.specs.declared.roles.NetKind.{NetKind}
use Rattle.module_scope.specs.declared.roles.Side.{Side}
use Rattle.module_scope.specs.declared.roles.Side.TheVariants as side
use Rattle.module_scope.specs.declared.roles.Role.{Role}
use Rattle.module_scope.specs.declared.roles.Role.TheVariants as role
use Rattle.module_scope.specs.declared.roles.Count.{Count}
use Rattle.module_scope.specs.declared.roles.Count.TheVariants.{Zero, One, Several}

-- an entry of the header
abbrev pub is_header : Role → Bool
is_header role.Header = true
is_header other = false

-- a declaration of a direction (IEEE 1364-2005, 12.3.3)
abbrev pub is_port : Role → Bool
is_port (role.Port port) = true
is_port other = false

-- a declaration of a net (IEEE 1364-2005, 6.1.1 and 3.2.1)
abbrev pub is_net : Role → Bool
is_net (role.Net net) = true
is_net other = false

-- the name of a gate or of an instance
abbrev pub is_instance : Role → Bool
is_instance role.Instance = true
is_instance other = false

-- a declaration by which the name is that of a net: of its direction, or of the net itself
abbrev pub declares_net : Role → Bool
declares_net r = is_port r || is_net r

-- a declaration of a net or of an instance
abbrev pub is_declaration : Role → Bool
is_declaration r = declares_net r || is_instance r

-- the right side of an assignment
abbrev pub is_value : Side → Bool
is_value side.Value = true
is_value other = false

-- a terminal, a connection or the target of an assignment: there a name that isn't declared is an implicit net (IEEE 1364-2005, 4.5)
abbrev pub takes_implicit : Side → Bool
takes_implicit side.Value = false
takes_implicit other = true

-- a use that makes an implicit net where the module declares none of the name: a name without select in a terminal, a connection or a target
abbrev pub makes_net : Role → Bool
makes_net (role.Use at None) = takes_implicit at
makes_net other = false

-- the range that a declaration gives
abbrev pub range_of : Role → Option RangeBounds
range_of (role.Port port) = port.range
range_of (role.Net net) = net.range
range_of other = None

-- the direction, where it is declared
abbrev pub direction_of : Role → Option Direction
direction_of (role.Port port) = Some port.direction
direction_of other = None

-- the net type that is declared with a direction
abbrev pub type_of : Role → Option NetType
type_of (role.Port port) = port.net_type
type_of other = None

-- the kind of a net that is declared
abbrev pub kind_of : Role → Option NetKind
kind_of (role.Net net) = Some net.kind
kind_of other = None

-- the index of the item that has the delay of a net that is declared
abbrev pub delay_of : Role → Option ℕ
delay_of (role.Net net) = net.delay
delay_of other = None

-- what is given by the first of the roles that gives something
abbrev pub first_of : {X : Type 0} → (Role → Option X) → List Role → Option X
first_of gives [] = None
first_of gives (r ∷ roles) = option_or (gives r) (first_of gives roles)

-- one more
abbrev pub more : Count → Count
more Zero = One
more One = Several
more Several = Several

-- whether none, one or several of the roles are of a kind
abbrev pub how_many : (Role → Bool) → List Role → Count
how_many is_kind [] = Zero
how_many is_kind (r ∷ roles) = if is_kind r then more (how_many is_kind roles) else how_many is_kind roles

abbrev pub is_zero : Count → Bool
is_zero Zero = true
is_zero other = false

abbrev pub is_one : Count → Bool
is_one One = true
is_one other = false

abbrev pub is_several : Count → Bool
is_several Several = true
is_several other = false
