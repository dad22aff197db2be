use Rattle.std.proofs.Common.{replicate, arith}
use Rattle.std.proofs.lemmas.List.{length-replicate, get_or-replicate}
use Rattle.timing_wheel.specs.Times.{idle}
use Rattle.timing_wheel.proofs.Held.{IsWheel-fresh, empty_held}
use Rattle.timing_wheel.proofs.wheel.Wheel.with_slots.Goals as goal

pub invariant_of-result : goal.invariant_of-result
invariant_of-result c =
    rw c.in_ok-schedule.ensures
    (IsWheel-fresh c.in_ok-keys.keys.items c.in_ok-index.index c.args.slots c.in_ok-keys.ensures (omega (arith, c.requires)) (omega (arith, c.in_ok-index.ensures.spare)))

pub returns-clause-times : goal.returns-clause-times
returns-clause-times c =
    rw c.in_ok-schedule.ensures
    (empty_held c.in_ok-keys.keys.items (replicate c.args.slots idle) c.in_ok-index.index c.args.slots
    (IsWheel-fresh c.in_ok-keys.keys.items c.in_ok-index.index c.args.slots c.in_ok-keys.ensures (omega (arith, c.requires)) (omega (arith, c.in_ok-index.ensures.spare)))
    (λ i fits. get_or-replicate c.args.slots i idle 0 (omega (arith, length-replicate c.args.slots idle))))
