-- Why the arguments of a primitive are refused, and where.
use Rattle.std.specs.Prelude.{ℕ, suc, nat_le, Bool, not, ◌&&◌, List, [], ◌∷◌, Option, Some, None, slice_get, if◌then◌else◌}
use Rattle.std.specs.List.{position}
use Rattle.std.specs.Option.{option_map, option_or, unwrap_or}
use Rattle.v_tree.specs.declared.locations.Location.{Location}
use Rattle.v_tree.specs.declared.primitives.PlacedRow.{PlacedRow}
use Rattle.v_tree.specs.declared.primitives.UdpDecl.{UdpDecl}
use Rattle.udp_table.specs.declared.rows.UdpRow.{UdpRow}
use Rattle.udp_table.specs.declared.making.UdpFault.{UdpFault}
use Rattle.udp_table.specs.declared.making.UdpFault.TheVariants.{TooManyInputs, BadSymbol, TwoEdges, Clash, Memory}
use Rattle.udp_table.specs.Tests.{row_test, edges_test, clash_test}
use Rattle.udp_table.specs.Faults.{IsFault}
use Rattle.primitive_rules.specs.declared.arguments.UdpArguments.{UdpArguments}
use Rattle.primitive_rules.specs.Arguments.{arguments_of}

-- the fault is that of the arguments
abbrev pub IsFaultOf : UdpArguments → UdpFault → Type 0
IsFaultOf a f = IsFault a.inputs a.sequential a.rows f

-- a primitive has 1 to 10 inputs
abbrev pub is_count : ℕ → Bool
is_count inputs = nat_le 1 inputs && nat_le inputs 10

-- a pair of rows, each one row further
abbrev pub next_pair : ℕ × ℕ → ℕ × ℕ
next_pair pair = (suc pair.0, suc pair.1)

-- the least pair of rows that overlap and whose outputs differ: the least first row, then the least second
abbrev pub first_clash : List UdpRow → Option (ℕ × ℕ)
first_clash [] = None
first_clash (row ∷ rows) =
    option_or (option_map (λ k. (0, suc k)) (position (clash_test row) rows)) (option_map next_pair (first_clash rows))

-- the first cause that the rows give
abbrev pub rows_refusal : ℕ → Bool → List UdpRow → Option UdpFault
rows_refusal inputs sequential rows =
    option_or (option_map BadSymbol (position (λ row. not (row_test inputs sequential row)) rows))
    (option_or (option_map TwoEdges (position edges_test rows))
    (option_map (λ pair. Clash pair.0 pair.1) (first_clash rows)))

-- why the arguments are refused, where they are: the first cause, of which there is at most one
abbrev pub refusal_of : UdpArguments → Option UdpFault
refusal_of a = if is_count a.inputs then rows_refusal a.inputs a.sequential a.rows else Some TooManyInputs

-- the first token of a row
abbrev pub row_place : UdpDecl → ℕ → Location
row_place udp k = unwrap_or (option_map (λ r. r.location) (slice_get udp.rows k)) udp.name.location

-- where a fault stands: at its row, that of a clash at the later row, and too many inputs at the name
abbrev pub fault_place : UdpDecl → UdpFault → Location
fault_place udp TooManyInputs = udp.name.location
fault_place udp (BadSymbol k) = row_place udp k
fault_place udp (TwoEdges k) = row_place udp k
fault_place udp (Clash i j) = row_place udp j
fault_place udp Memory = udp.name.location

-- the place of a fault, where there is one
abbrev pub places_of : UdpDecl → Option UdpFault → List Location
places_of udp None = []
places_of udp (Some f) = fault_place udp f ∷ []

-- the place at which the arguments of a declaration are refused, where they are
abbrev pub table_places : UdpDecl → List Location
table_places udp = places_of udp (refusal_of (arguments_of udp))
