-- What pairs of nets join, over any number of steps.
use Rattle.std.specs.Prelude.{ℕ, ◌<◌, ◌≤◌, ◌≡◌, List, length, slice_index}
use Rattle.std.specs.List.{All, Contains}

-- a walk of any number of steps, each taken in either direction
pub data Walk (R : ℕ → ℕ → Type 0) : ℕ → ℕ → Type 0 where
  Stay : {a : ℕ} → Walk R a a
  Ahead : {a b c : ℕ} → R a b → Walk R b c → Walk R a c
  Back : {a b c : ℕ} → R b a → Walk R b c → Walk R a c

-- the pairs join the two nets over any number of steps
abbrev pub IsJoined : List (ℕ × ℕ) → ℕ → ℕ → Type 0
IsJoined pairs = Walk (λ a b. Contains pairs (a, b))

-- the nets of the pairs are below the count
abbrev pub AreBelow : ℕ → List (ℕ × ℕ) → Type 0
AreBelow count pairs = All (λ pair. (pair.0 < count) × (pair.1 < count)) pairs

-- the least net that a net is joined with
pub record IsLeastJoined (pairs : List (ℕ × ℕ)) (net least : ℕ) : Type 0 where
  pub joined : IsJoined pairs net least
  pub below : (other : ℕ) → IsJoined pairs net other → least ≤ other

-- for each net below the count, the least net that it is joined with
pub record AreGroups (count : ℕ) (pairs : List (ℕ × ℕ)) (least : List ℕ) : Type 0 where
  pub all : length least ≡ count
  pub each : (net : ℕ) → net < count → IsLeastJoined pairs net (slice_index least net)
