-- For the code alone: indexes that are marked since some reference is to them.
use Rattle.std.specs.Prelude.{◌≡◌, ◌<◌, ◌||◌, ℕ, Bool, false, List, length, slice_index_or}
use Rattle.module_graph.specs.declared.references.Reference.{Reference}
use Rattle.module_graph.specs.Top.{is_instantiated}

-- those that a test hits are marked besides
pub record AreMarked (hits : ℕ → Bool) (old new : List Bool) : Type 0 where
  pub same_length : length new ≡ length old
  pub marks : (k : ℕ) → k < length old → slice_index_or new k false ≡ (slice_index_or old k false || hits k)

-- each module that some module instantiates is marked, and no other
pub record AreInstantiated (references : List (List Reference)) (marks : List Bool) : Type 0 where
  pub all : length marks ≡ length references
  pub each : (k : ℕ) → k < length references → slice_index_or marks k false ≡ is_instantiated references k
