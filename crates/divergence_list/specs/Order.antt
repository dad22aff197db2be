-- What only the bodies and proofs of this crate use: the order of a cell's entries.
use Rattle.std.specs.Prelude.{ℕ, suc, ◌+◌, ◌≤◌, ◌^◌, List, [], ◌∷◌, if◌then◌else◌, nat_lt}
use Rattle.divergence_list.specs.declared.entry.Entry.{Entry}

module _ {V : Type 0} where
  -- the faults rise from low on, and all are below high
  abbrev pub RisesWithin : ℕ → ℕ → List (Entry V) → Type 0
  RisesWithin low high [] = low ≤ high
  RisesWithin low high (entry ∷ entries) = (low ≤ entry.fault) × RisesWithin (entry.fault + 1) high entries

  -- the entries of a cell have rising faults, all of them of type u32
  abbrev pub IsCellList : List (Entry V) → Type 0
  IsCellList entries = RisesWithin 0 (2 ^ 32) entries

  -- how many entries have a lower fault, in a list with faults rising
  abbrev pub rank : List (Entry V) → ℕ → ℕ
  rank [] fault = 0
  rank (entry ∷ entries) fault = if nat_lt entry.fault fault then suc (rank entries fault) else 0
