-- The value of a user-defined primitive (IEEE 1364-2005, 8.2 to 8.6).
use Rattle.std.specs.Prelude.{◌≡◌, IsTrue, ℕ, ◌+◌, take, drop, slice_index_or, List, [], ◌∷◌, ◌++◌, map, find, Option, Some, None, if◌then◌else◌, ◌↔◌}
use Rattle.std.specs.List.{Contains}
use Rattle.level_range.specs.declared.range.Logic.{Logic}
use Rattle.level_range.specs.declared.range.Logic.TheVariants.{Zero, One, X}
use Rattle.udp_table.specs.declared.symbols.Sym.{Sym}
use Rattle.udp_table.specs.declared.symbols.Sym.TheVariants as sym
use Rattle.udp_table.specs.declared.rows.UdpRow.{UdpRow}
use Rattle.udp_table.specs.Symbols.{Pin, same_value}
use Rattle.udp_table.specs.Rows.{matches}

-- the inputs of a level-sensitive look-up: each keeps its value
abbrev pub level_inputs : List Logic → List Pin
level_inputs values = map (λ v. record { was = v; now = v }) values

-- the inputs of an edge-sensitive look-up: one changes, and the others keep their values
abbrev pub edge_inputs : List Logic → Logic → Logic → List Logic → List Pin
edge_inputs before was now after = level_inputs before ++ (record { was = was; now = now } ∷ level_inputs after)

-- the output of the row, where there is one
abbrev pub output_in : Option UdpRow → Option Sym
output_in None = None
output_in (Some row) = Some row.out

-- the output of a row that matches
abbrev pub matching_output : List UdpRow → List Pin → Logic → Option Sym
matching_output rows pins state = output_in (find (λ row. matches row pins state) rows)

-- the first that is there
abbrev pub either : Option Sym → Option Sym → Option Sym
either None other = other
either (Some s) other = Some s

-- an output's value; `-` keeps the state
abbrev pub output_value : Sym → Logic → Logic
output_value sym.Zero state = Zero
output_value sym.One state = One
output_value sym.Same state = state
output_value _ state = X

-- the value of an output, and x where there is none
abbrev pub value_or_x : Option Sym → Logic → Logic
value_or_x None state = X
value_or_x (Some s) state = output_value s state

-- the value of a combinational primitive: the output of a matching row, else x
abbrev pub level_value : List UdpRow → List Logic → Logic
level_value rows ins = value_or_x (matching_output rows (level_inputs ins) X) X

-- the state after one input's change: the output of a level-sensitive row that matches the inputs so far, else of an
-- edge-sensitive row that matches the change, else x
abbrev pub next_value : List UdpRow → List Logic → Logic → Logic → List Logic → Logic → Logic
next_value rows before was now after state =
    value_or_x (either (matching_output rows (level_inputs (before ++ (now ∷ after))) state) (matching_output rows (edge_inputs before was now after) state)) state

-- the value of input k
abbrev pub value_at : List Logic → ℕ → Logic
value_at values k = slice_index_or values k X

-- the state after the change of input k, where those before it have changed and those after it haven't
abbrev pub state_after_input : List UdpRow → List Logic → List Logic → ℕ → Logic → Logic
state_after_input rows old new k state =
    next_value rows (take k new) (value_at old k) (value_at new k) (drop (k + 1) old) state

-- the state after the inputs that differ, applied one after the other in port order; the inputs before have been applied
abbrev pub state_after : List UdpRow → List Logic → List Logic → List Logic → Logic → Logic
state_after rows before (v ∷ vs) (w ∷ ws) state =
    state_after rows (before ++ (w ∷ [])) vs ws (if same_value v w then state else next_value rows before v w vs state)
state_after rows before _ _ state = state

-- the two lists have the same rows, in any order
abbrev pub HasSameRows : List UdpRow → List UdpRow → Type 0
HasSameRows rows others = (row : UdpRow) → Contains rows row ↔ Contains others row

-- the value is the output of each row that matches the inputs of a combinational primitive
abbrev pub IsOutputOfEach : List UdpRow → List Logic → Logic → Type 0
IsOutputOfEach rows ins value =
    (row : UdpRow) → Contains rows row → IsTrue (matches row (level_inputs ins) X) → value ≡ output_value row.out X

-- the value is that of a combinational primitive with the same rows, in any order
abbrev pub IsLevelInAnyOrder : List UdpRow → List Logic → Logic → Type 0
IsLevelInAnyOrder rows ins value = (others : List UdpRow) → HasSameRows rows others → value ≡ level_value others ins

-- the state is that of a sequential primitive with the same rows, in any order
abbrev pub IsStateInAnyOrder : List UdpRow → List Logic → List Logic → Logic → Logic → Type 0
IsStateInAnyOrder rows old new state value =
    (others : List UdpRow) → HasSameRows rows others → value ≡ state_after others [] old new state
