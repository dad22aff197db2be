-- What only the bodies and proofs of this crate use: how the lists of the cells lie in memory.
use Rattle.std.specs.Prelude.{ℕ, zero, suc, ◌≡◌, ◌<◌, List, [], length, map, slice_index, slice_index_or}
use Rattle.divergence_list.specs.declared.entry.Entry.{Entry}
use Rattle.divergence_list.specs.declared.cell_lists.CellList.{CellList}

module _ {V : Type 0} where
  -- the entries of each list
  abbrev pub contents : List (CellList V) → List (List (Entry V))
  contents lists = map (λ list. list.entries.items) lists

  -- the cell of each list
  abbrev pub owners : List (CellList V) → List ℕ
  owners lists = map (λ list. list.cell) lists

  -- the entries of a cell with this number of its list, or 0 for none
  abbrev pub numbered : List (List (Entry V)) → ℕ → List (Entry V)
  numbered lists zero = []
  numbered lists (suc k) = slice_index_or lists k []

  -- the entries by cell
  abbrev pub by_cell : List ℕ → List (CellList V) → List (List (Entry V))
  by_cell numbers lists = map (numbered (contents lists)) numbers

-- each list that a cell names is there, and is that cell's
abbrev pub IsOwned : List ℕ → List ℕ → Type 0
IsOwned numbers owners = (cell k : ℕ) → slice_index numbers cell ≡ suc k
    → (k < length owners) × (slice_index owners k ≡ cell)
