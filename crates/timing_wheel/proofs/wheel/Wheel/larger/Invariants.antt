use Rattle.std.proofs.Common.{◌≡◌, ◌+◌, ◌≤◌}
use Rattle.std.specs.FinMap.{len}
use Rattle.timing_wheel.proofs.Copied.{Copies}
use Rattle.timing_wheel.proofs.wheel.Wheel.larger.Given as goal

abbrev pub invariant-loop-slot : goal.invariant-loop-slot
invariant-loop-slot l =
    (len l.copy.times + l.copy.spare ≡ l.slots) × (len l.copy.times ≤ l.slot)
    × Copies l.self-inside.keys.items l.self-inside.schedule l.copy.times l.slot
