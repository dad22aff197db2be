-- A user-defined primitive that `build` accepts.
use Rattle.std.specs.Prelude.{◌≡◌, ◌≢◌, ℕ, ◌<◌, ◌≤◌, Bool, List, length, All}
use Rattle.level_range.specs.declared.range.Logic.{Logic}
use Rattle.level_range.specs.declared.range.Logic.TheVariants.{Z}
use Rattle.udp_table.specs.declared.rows.UdpRow.{UdpRow}
use Rattle.udp_table.specs.Rows.{IsWellFormed, edge_count, Overlap, row_at}

-- a primitive: how many inputs it has, whether it has a state, the state's start value, and its rows
pub record Primitive : Type 0 where
  pub inputs : ℕ
  pub sequential : Bool
  pub start : Logic
  pub rows : List UdpRow

-- a primitive of its parts
abbrev pub primitive : ℕ → Bool → Logic → List UdpRow → Primitive
primitive inputs sequential start rows = record { inputs = inputs; sequential = sequential; start = start; rows = rows }

-- it has 1 to 10 inputs
abbrev pub IsCount : ℕ → Type 0
IsCount inputs = (1 ≤ inputs) × (inputs ≤ 10)

-- rows that overlap have the same output
abbrev pub Agrees : List UdpRow → Type 0
Agrees rows =
    (i j : ℕ) → i < j → j < length rows → Overlap (row_at rows i) (row_at rows j)
    → (row_at rows i).out ≡ (row_at rows j).out

-- the parts are such as `build` accepts
pub record IsAccepted (u : Primitive) : Type 0 where
  pub inputs : IsCount u.inputs
  pub start : u.start ≢ Z
  pub rows : All (IsWellFormed u.inputs u.sequential) u.rows
  pub edges : All (λ row. edge_count row ≤ 1) u.rows
  pub agrees : Agrees u.rows
