-- What only the bodies and proofs of this crate use: the cells of each fault, and what is true of every spread.
use Rattle.std.specs.Prelude.{ℕ, ◌≡◌, ◌<◌, ◌^◌, Bool, false, List, length, Option, None, Some, is_some, nat_eq}
use Rattle.std.specs.HashMap as map
use Rattle.std.specs.HashSet as set
use Rattle.divergence_list.specs.declared.entry.Entry.{Entry}
use Rattle.divergence_list.specs.Entries.{at_cell, entry_at, count}
use Rattle.divergence_list.specs.Order.{IsCellList}
use Rattle.divergence_list.specs.declared.fault_cells.FaultCells.{FaultCells}

-- a set, or none, has the cell
abbrev pub is_in : {S : Type 0} → Option (set.HashSet ℕ S) → ℕ → Bool
is_in None cell = false
is_in (Some cells) cell = set.contains nat_eq cells cell

-- the cell is among those of the fault
abbrev pub has_cell : FaultCells → ℕ → ℕ → Bool
has_cell cells fault cell = is_in (map.get nat_eq cells.by_fault fault) cell

module _ {V : Type 0} where
  -- each cell has its entries in order
  abbrev pub IsSound : List (List (Entry V)) → Type 0
  IsSound cells = (cell : ℕ) → IsCellList (at_cell cells cell)

  -- lists of entries by cell, with the cells of each fault and the number of entries
  pub record IsSpread (cells : List (List (Entry V))) (by_fault : FaultCells) (total : ℕ) : Type 0 where
    pub sound : IsSound cells
    pub fault_cells : (f c : ℕ) → has_cell by_fault f c ≡ is_some (entry_at cells c f)
    pub counted : total ≡ count cells
    pub few : length cells < 2 ^ 32
