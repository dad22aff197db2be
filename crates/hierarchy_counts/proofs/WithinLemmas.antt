-- Lists of instances of modules that are there.
use Rattle.std.proofs.Common.{◌≡◌, ℕ, zero, suc, ◌<◌, List, [], ◌∷◌, arith}
use Rattle.std.specs.List.{All}
use Rattle.hierarchy_counts.specs.declared.counts.InstanceCounts.{InstanceCounts}
use Rattle.hierarchy_counts.specs.Hierarchy.{AreWithin}

-- each instance of a list is of a module
abbrev pub IsWithin : ℕ → List InstanceCounts → Type 0
IsWithin count list = All (λ (i : InstanceCounts). i.master < count) list

pub none_within : (count : ℕ) → IsWithin count []
none_within count k d lt = absurd (omega arith)

pub one_more_within : (count : ℕ) (i : InstanceCounts) (list : List InstanceCounts) → i.master < count → IsWithin count list → IsWithin count (i ∷ list)
one_more_within count i list here rest zero d lt = here
one_more_within count i list here rest (suc k) d lt = rest k d (omega arith)

pub within_none : (count : ℕ) → AreWithin count []
within_none count k d lt = absurd (omega arith)

pub within_cons : (count : ℕ) (list : List InstanceCounts) (lists : List (List InstanceCounts)) → IsWithin count list → AreWithin count lists → AreWithin count (list ∷ lists)
within_cons count list lists here rest zero d lt = here
within_cons count list lists here rest (suc k) d lt = rest k d (omega arith)
