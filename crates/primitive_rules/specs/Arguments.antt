-- What a declaration of a primitive gives to the making of the primitive.
use Rattle.std.specs.Prelude.{ℕ, ◌-◌, Bool, true, false, not, ◌&&◌, ◌||◌, List, [], ◌∷◌, length, map, Option, Some, None}
use Rattle.std.specs.List.{list_any}
use Rattle.std.specs.Option.{is_some, unwrap_or}
use Rattle.level_range.specs.declared.range.Logic.{Logic}
use Rattle.level_range.specs.declared.range.Logic.TheVariants.{X}
use Rattle.udp_table.specs.declared.rows.UdpRow.{UdpRow}
use Rattle.udp_table.specs.Primitive.{Primitive, primitive}
use Rattle.v_tree.specs.declared.locations.Name.{Name}
use Rattle.v_tree.specs.declared.primitives.PlacedRow.{PlacedRow}
use Rattle.v_tree.specs.declared.primitives.UdpDecl.{UdpDecl}
use Rattle.primitive_rules.specs.declared.arguments.UdpArguments.{UdpArguments}
use Rattle.primitive_rules.specs.Ports.{Start, header_names, regs, starts}
use Rattle.primitive_rules.specs.Starts.{start_value}

abbrev pub is_empty : {X : Type 0} → List X → Bool
is_empty [] = true
is_empty (x ∷ xs) = false

-- some name is declared as `reg`
abbrev pub has_reg : UdpDecl → Bool
has_reg udp = not (is_empty (regs udp))

-- a row has a state field (IEEE 1364-2005, 8.1.4)
abbrev pub has_state : PlacedRow → Bool
has_state r = is_some r.row.state

-- some row has a state field, or there is a `reg` and no row
abbrev pub is_sequential : UdpDecl → Bool
is_sequential udp = list_any has_state udp.rows || (is_empty udp.rows && has_reg udp)

-- the start value of the first that is written, x where it isn't right
abbrev pub first_value : List Start → Option Logic
first_value [] = None
first_value (s ∷ ss) = Some (unwrap_or (start_value s.value) X)

-- one input less than header ports, the start value, x where none is written, and the rows as they are written
abbrev pub arguments_of : UdpDecl → UdpArguments
arguments_of udp = record {
  inputs = length (header_names udp.ports) - 1;
  sequential = is_sequential udp;
  start = unwrap_or (first_value (starts udp)) X;
  rows = map (λ r. r.row) udp.rows;
}

-- the primitive of these arguments
abbrev pub primitive_of : UdpArguments → Primitive
primitive_of a = primitive a.inputs a.sequential a.start a.rows
