-- For the code alone: a search for the modules that a module leads to.
use Rattle.std.specs.Prelude.{◌≡◌, ◌<◌, ◌+◌, ◌⊎◌, ℕ, true, false, not, List, [], length, replicate, slice_index_or}
use Rattle.std.specs.List.{count_by, Contains}
use Rattle.module_graph.specs.declared.reach.Search.{Search}
use Rattle.module_graph.specs.declared.references.Reference.{Reference}
use Rattle.module_graph.specs.Reach.{instantiates, is_reached, refers_to}

-- a module was found
abbrev pub IsFound : Search → ℕ → Type 0
IsFound s index = slice_index_or s.reached index false ≡ true

-- how many modules have still to be found or followed
abbrev pub work_left : Search → ℕ
work_left s = count_by not s.reached + length s.waiting

-- nothing is found
pub record IsStart (count : ℕ) (s : Search) : Type 0 where
  pub reached : s.reached ≡ replicate count false
  pub waiting : s.waiting ≡ []

-- the second search found a module besides, unless the first one had or it isn't there
pub record Found (index : ℕ) (s t : Search) : Type 0 where
  pub same_length : length t.reached ≡ length s.reached
  pub keeps : (k : ℕ) → IsFound s k → IsFound t k
  pub waits : (k : ℕ) → Contains s.waiting k → Contains t.waiting k
  pub new : (k : ℕ) → IsFound t k → IsFound s k ⊎ (Contains t.waiting k × (k ≡ index))
  pub waiting : (k : ℕ) → Contains t.waiting k → Contains s.waiting k ⊎ IsFound t k
  pub there : index < length s.reached → IsFound t index
  pub same_left : work_left t ≡ work_left s

-- the second search found all modules that references are to besides
pub record Followed (references : List Reference) (s t : Search) : Type 0 where
  pub same_length : length t.reached ≡ length s.reached
  pub keeps : (k : ℕ) → IsFound s k → IsFound t k
  pub waits : (k : ℕ) → Contains s.waiting k → Contains t.waiting k
  pub new : (k : ℕ) → IsFound t k → IsFound s k ⊎ (Contains t.waiting k × (refers_to k references ≡ true))
  pub waiting : (k : ℕ) → Contains t.waiting k → Contains s.waiting k ⊎ IsFound t k
  pub there : (k : ℕ) → refers_to k references ≡ true → k < length s.reached → IsFound t k
  pub same_left : work_left t ≡ work_left s

-- a search from the top: what is found is reached, and what a found module instantiates is found, unless the module still waits
pub record IsSearch (references : List (List Reference)) (top : ℕ) (s : Search) : Type 0 where
  pub all : length s.reached ≡ length references
  pub sound : (k : ℕ) → IsFound s k → is_reached references top k ≡ true
  pub waiting : (k : ℕ) → Contains s.waiting k → IsFound s k
  pub begins : top < length references → IsFound s top
  pub closed : (a b : ℕ) → IsFound s a → instantiates references a b ≡ true → b < length references → IsFound s b ⊎ Contains s.waiting a
