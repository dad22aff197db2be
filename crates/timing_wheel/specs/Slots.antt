-- Definitions that only code and proofs use: what a schedule keeps of each slot.
use Rattle.std.specs.Prelude.{◌≡◌, ◌≢◌, ℕ, suc, ◌+◌, ◌^◌, ◌<◌, List, length, slice_index}
use Rattle.timing_wheel.specs.Times.{idle}
use Rattle.timing_wheel.specs.Links.{Placement}

-- a slot is linked into the bucket of its time, or isn't in use, or is a leaf of the far times
pub data IsKept (buckets place time tick far : ℕ) : Type 0 where
  near : place < buckets → time ≡ tick → time < idle → far ≡ idle → IsKept buckets place time tick far
  resting : place ≡ buckets → time ≡ idle → far ≡ idle → IsKept buckets place time tick far
  distant : place ≡ suc buckets → time < idle → far ≡ time → IsKept buckets place time tick far

-- each slot is kept, and a bucket that has a tick has a slot
pub record IsSchedule (times : List ℕ) (chains : Placement) (ticks far : List ℕ) : Type 0 where
  pub places_size : length chains.places ≡ length times
  pub far_size : length far ≡ length times
  pub small : length times + length ticks < 2 ^ 32
  pub lists : 0 < length times → (chains.lists ≡ suc (length ticks)) × (0 < length ticks)
  pub kept : (slot : ℕ) → slot < length times
      → IsKept (length ticks) (slice_index chains.places slot) (slice_index times slot) (slice_index ticks (slice_index chains.places slot)) (slice_index far slot)
  pub used : (bucket : ℕ) → bucket < length ticks → slice_index ticks bucket ≢ idle → (slot : ℕ) × (slot < length times) × (slice_index chains.places slot ≡ bucket)
