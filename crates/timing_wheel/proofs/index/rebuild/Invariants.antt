use Rattle.std.proofs.Common.{◌≡◌, ◌≢◌, ℕ, ◌+◌, ◌<◌, ◌≤◌, length, slice_index, nat_eq, Some}
use Rattle.std.specs.HashMap.{get, hash_map_len, spare}
use Rattle.timing_wheel.specs.Times.{idle}
use Rattle.timing_wheel.proofs.index.rebuild.Given as goal

abbrev pub invariant-loop-slot : goal.invariant-loop-slot
invariant-loop-slot l =
    (length l.keys + length l.keys ≤ spare l.index + l.slot) × (length l.keys + length l.keys ≤ hash_map_len l.index + spare l.index)
    × ((k : ℕ) → k < l.slot → slice_index l.schedule k ≢ idle → get nat_eq l.index (slice_index l.keys k) ≡ Some k)
