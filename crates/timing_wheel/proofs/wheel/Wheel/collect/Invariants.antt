use Rattle.std.proofs.Common.{◌+◌, ◌≤◌, vec_len, vec_capacity}
use Rattle.std.specs.FinMap.{len}
use Rattle.timing_wheel.specs.Entries.{Appends}
use Rattle.timing_wheel.proofs.wheel.Wheel.collect.Given as goal

abbrev pub invariant-loop-key : goal.invariant-loop-key
invariant-loop-key l =
    (vec_len l.keys + len l.self.times ≤ vec_capacity l.keys)
    × Appends l.fn.self l.self l.t l.fn.keys.items l.keys.items

abbrev pub decreases-loop-key : goal.decreases-loop-key
decreases-loop-key l = len l.self.times
