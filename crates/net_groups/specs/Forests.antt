-- For the code alone: lists of parents as forests.
use Rattle.std.specs.Prelude.{ℕ, ◌<◌, ◌≤◌, ◌≡◌, ◌⊎◌, List, length, slice_index}
use Rattle.std.specs.List.{Contains}
use Rattle.net_groups.specs.Joins.{Walk, IsJoined}

-- the parent of each net is the net itself or one below it
abbrev pub IsForest : List ℕ → Type 0
IsForest parents = (net : ℕ) → net < length parents → slice_index parents net ≤ net

-- the second net is the parent of the first
abbrev pub IsParent : List ℕ → ℕ → ℕ → Type 0
IsParent parents net parent = (net < length parents) × (parent ≡ slice_index parents net)

-- the new parents join what the old ones do
pub record IsRegrouped (old new : List ℕ) : Type 0 where
  pub same_length : length new ≡ length old
  pub from_new : (a b : ℕ) → IsParent new a b → Walk (IsParent old) a b
  pub from_old : (a b : ℕ) → IsParent old a b → Walk (IsParent new) a b

-- what is its own parent stays so
abbrev pub KeepsRoots : List ℕ → List ℕ → Type 0
KeepsRoots old new = (net : ℕ) → net < length old → slice_index old net ≡ net → slice_index new net ≡ net

-- a step to a parent, or from the first net to the second
abbrev pub IsParentOrPair : List ℕ → ℕ → ℕ → ℕ → ℕ → Type 0
IsParentOrPair parents first second a b = IsParent parents a b ⊎ ((a ≡ first) × (b ≡ second))

-- the new parents join what the old ones do, and the two nets
pub record IsUnited (old new : List ℕ) (first second : ℕ) : Type 0 where
  pub same_length : length new ≡ length old
  pub forest : IsForest new
  pub pair : Walk (IsParent new) first second
  pub from_old : (a b : ℕ) → IsParent old a b → Walk (IsParent new) a b
  pub from_new : (a b : ℕ) → IsParent new a b → Walk (IsParentOrPair old first second) a b

-- each net below the count is its own parent
pub record IsSingle (count : ℕ) (parents : List ℕ) : Type 0 where
  pub all : length parents ≡ count
  pub own : (net : ℕ) → net < count → slice_index parents net ≡ net

-- each parent is a root
abbrev pub IsFlat : List ℕ → Type 0
IsFlat parents = (net : ℕ) → net < length parents → slice_index parents (slice_index parents net) ≡ slice_index parents net

-- the parents join what the pairs do
pub record JoinsAlike (pairs : List (ℕ × ℕ)) (parents : List ℕ) : Type 0 where
  pub forest : IsForest parents
  pub from_parents : (a b : ℕ) → IsParent parents a b → IsJoined pairs a b
  pub from_pairs : (a b : ℕ) → Contains pairs (a, b) → Walk (IsParent parents) a b
