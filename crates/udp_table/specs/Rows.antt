-- Rows: what may stand in them, their edges, what they match, and where two overlap (IEEE 1364-2005, 8.1.4 to 8.1.6).
use Rattle.std.specs.Prelude.{◌≡◌, ◌≢◌, ◌<◌, map, ℕ, Bool, true, false, ◌&&◌, IsTrue, ◌⊎◌, List, [], length, All, Option, Some, None, slice_index_or}
use Rattle.std.specs.List.{count_by}
use Rattle.level_range.specs.declared.range.Logic.{Logic}
use Rattle.udp_table.specs.declared.symbols.Sym.{Sym}
use Rattle.udp_table.specs.declared.symbols.Sym.TheVariants.{Zero, One, X, Same, Rise, Fall, Pos, Neg, Change, Edge}
use Rattle.udp_table.specs.declared.rows.UdpRow.{UdpRow}
use Rattle.udp_table.specs.Pairs.{pairwise}
use Rattle.udp_table.specs.Symbols.{Pin, admits, has_value, HasValue, HasChange}

-- an input's symbol has a value, or in a sequential primitive contains a change
abbrev pub IsInput : Bool → Sym → Type 0
IsInput sequential s = HasValue s ⊎ (IsTrue sequential × HasChange s)

-- a sequential primitive has a state field, whose symbol has a value; a combinational one has none
abbrev pub IsState : Bool → Option Sym → Type 0
IsState sequential None = ¬ IsTrue sequential
IsState sequential (Some s) = IsTrue sequential × HasValue s

-- an output is 0, 1 or x, or in a sequential primitive no change
abbrev pub IsOutput : Bool → Sym → Type 0
IsOutput sequential Zero = Unit {0}
IsOutput sequential One = Unit {0}
IsOutput sequential X = Unit {0}
IsOutput sequential Same = IsTrue sequential
IsOutput sequential _ = ⊥

-- each symbol of the row may stand in its place, and there is one for each input
pub record IsWellFormed (inputs : ℕ) (sequential : Bool) (row : UdpRow) : Type 0 where
  pub length : length row.ins ≡ inputs
  pub ins : All (IsInput sequential) row.ins
  pub state : IsState sequential row.state
  pub out : IsOutput sequential row.out

-- `r f p n *` and `(vw)`
abbrev pub is_edge : Sym → Bool
is_edge Rise = true
is_edge Fall = true
is_edge Pos = true
is_edge Neg = true
is_edge Change = true
is_edge (Edge a b) = true
is_edge _ = false

-- a level-sensitive row has no edge
abbrev pub IsLevelSensitive : UdpRow → Type 0
IsLevelSensitive row = (k : ℕ) → k < length row.ins → is_edge (slice_index_or row.ins k Same) ≡ false

-- an edge-sensitive row has an edge: at input k, and at no other
pub record HasEdgeAt (row : UdpRow) (k : ℕ) : Type 0 where
  pub within : k < length row.ins
  pub edge : is_edge (slice_index_or row.ins k Same) ≡ true
  pub others : (i : ℕ) → i < length row.ins → i ≢ k → is_edge (slice_index_or row.ins i Same) ≡ false

-- two rows have their edges at the same inputs, or both have none
abbrev pub HasSameEdges : UdpRow → UdpRow → Type 0
HasSameEdges r s = map is_edge r.ins ≡ map is_edge s.ins

-- how many edges a row has
abbrev pub edge_count : UdpRow → ℕ
edge_count row = count_by is_edge row.ins

-- each input is admitted by its symbol
abbrev pub admits_all : List Sym → List Pin → Bool
admits_all ss pins = pairwise admits ss pins

-- the state is among the values of the state field, where the row has one
abbrev pub admits_state : Option Sym → Logic → Bool
admits_state None v = true
admits_state (Some s) v = has_value s v

-- a row matches where each input and the state are admitted by their symbols: so a level-sensitive row matches only
-- inputs that keep their values, and an edge-sensitive one only a change of the input at which its edge is
abbrev pub matches : UdpRow → List Pin → Logic → Bool
matches row pins state = admits_all row.ins pins && admits_state row.state state

-- two rows overlap where some inputs and some state match both: so both have their edge at the same input, or neither
-- has one
pub record Overlap (r s : UdpRow) : Type 0 where
  pub pins : List Pin
  pub state : Logic
  pub first : IsTrue (matches r pins state)
  pub second : IsTrue (matches s pins state)

-- stands for a row where the list has none
abbrev pub no_row : UdpRow
no_row = record { ins = []; state = None; out = X }

-- row k of the list, counted from 0
abbrev pub row_at : List UdpRow → ℕ → UdpRow
row_at rows k = slice_index_or rows k no_row
