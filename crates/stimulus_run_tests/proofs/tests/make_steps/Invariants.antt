use Rattle.std.proofs.Common.{◌≡◌}
use Rattle.stimulus_run_tests.proofs.tests.make_steps.Given as goal

abbrev pub invariant-loop-step : goal.invariant-loop-step
invariant-loop-step g l = l.run.netlist ≡ l.flat
