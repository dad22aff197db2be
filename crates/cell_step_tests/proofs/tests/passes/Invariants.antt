use Rattle.cell_step.specs.Fitting.{FitsElement}
use Rattle.cell_step_tests.proofs.tests.passes.Given as goal

abbrev pub invariant-loop-pass : goal.invariant-loop-pass
invariant-loop-pass g l = FitsElement l.flat.parts 0 l.state
