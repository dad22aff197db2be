use Rattle.std.proofs.Common.{arith}
use Rattle.timing_wheel.proofs.Kept.{IsSchedule-resting}
use Rattle.timing_wheel.proofs.schedule.Schedule.with_slots.Goals as goal

pub invariant_of-result : goal.invariant_of-result
invariant_of-result c =
    let slots = c.args.slots in
    let loop = c.loop-slot.invariant in
    rw (c.in_ok-times.ensures, c.in_ok-ticks.ensures, c.in_ok-far.ensures)
    (IsSchedule-resting slots 512 c.loop-slot.chains loop.0 loop.1 (λ k fits. loop.2 k (omega arith)) (omega arith) (omega (arith, c.requires)))
