use Rattle.std.proofs.Common.{◌≡◌, ℕ, ◌<◌, ◌≤◌, length, slice_index}
use Rattle.timing_wheel.proofs.schedule.Schedule.with_slots.Given as goal

abbrev pub invariant-loop-slot : goal.invariant-loop-slot
invariant-loop-slot l =
    (l.chains.lists ≡ 513) × (length l.chains.places ≡ l.slots) × ((k : ℕ) → k < l.slot → slice_index l.chains.places k ≡ 512) × ((k : ℕ) → l.slot ≤ k → k < l.slots → slice_index l.chains.places k ≡ 513)
