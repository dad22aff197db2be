use Rattle.std.proofs.Common.{◌-◌}
use Rattle.stimulus_run.proofs.Passing.{IsAt}
use Rattle.stimulus_run.proofs.steps.step.Given as goal

-- further passes make the step
abbrev pub invariant-passes : goal.invariant-passes
invariant-passes g l = IsAt l.fn.run l.run

abbrev pub decreases-passes : goal.decreases-passes
decreases-passes g l = l.run.limit - l.run.machine.passes
