use Rattle.std.proofs.Common.{◌≡◌, ◌-◌, drop}
use Rattle.flattening.specs.Lists.{so_far}
use Rattle.flattening.specs.Spelled.{additions}
use Rattle.flattening.proofs.StepLemmas.{with_steps}
use Rattle.flattening.proofs.hierarchy.«+push_instance».Given as goal

abbrev pub decreases-push_instance : goal.decreases-push_instance
decreases-push_instance l = l.levels

abbrev pub invariant-loop-step : goal.invariant-loop-step
invariant-loop-step l =
    with_steps (additions l.plans l.delays (l.levels - 1)) l.plans l.delays l.at (so_far l.to) (drop l.step-index l.step-items)
    ≡ with_steps (additions l.plans l.delays (l.levels - 1)) l.plans l.delays l.at (so_far l.initial.to) l.step-items
