-- A finite map from cells and faults to values, as the list of its cells. Each cell is the list of
-- its entries, with faults rising.
use Rattle.std.specs.Prelude.{ℕ, ◌==◌, ◌≡◌, ◌≢◌, ◌&&◌, List, [], ◌∷◌, length, map, sum_by, Option, None, Some, if◌then◌else◌, slice_index_or}
use Rattle.std.specs.List.Sorted.{IsStrictlyIncreasing}
use Rattle.divergence_list.specs.declared.entry.Entry.{Entry}

module _ {V : Type 0} where
  -- the value that a fault has in a list of entries
  abbrev pub entry_in : List (Entry V) → ℕ → Option V
  entry_in [] fault = None
  entry_in (entry ∷ entries) fault =
      if entry.fault == fault then Some entry.value else entry_in entries fault

  -- the faults of the entries rise, each of them above the one before
  abbrev pub IsRising : List (Entry V) → Type 0
  IsRising entries = IsStrictlyIncreasing (map (λ entry. entry.fault) entries)

  -- the entries of a cell
  abbrev pub at_cell : List (List (Entry V)) → ℕ → List (Entry V)
  at_cell cells cell = slice_index_or cells cell []

  -- the value at a cell and a fault: the map
  abbrev pub entry_at : List (List (Entry V)) → ℕ → ℕ → Option V
  entry_at cells cell fault = entry_in (at_cell cells cell) fault

  -- how many entries there are
  abbrev pub count : List (List (Entry V)) → ℕ
  count cells = sum_by length cells

  -- new has this value, or none, at the cell and the fault, and all else as old has it; the lists
  -- of other cells are the same
  pub record ChangesOnly (old new : List (List (Entry V))) (cell fault : ℕ) (value : Option V) : Type 0 where
    pub cells : length new ≡ length old
    pub entries : (c f : ℕ)
        → entry_at new c f ≡ (if (cell == c) && (fault == f) then value else entry_at old c f)
    pub others : (c : ℕ) → c ≢ cell → at_cell new c ≡ at_cell old c

  -- new has nothing of the fault, and all else as old has it
  pub record DropsFault (old new : List (List (Entry V))) (fault : ℕ) : Type 0 where
    pub cells : length new ≡ length old
    pub entries : (c f : ℕ) → entry_at new c f ≡ (if fault == f then None else entry_at old c f)
