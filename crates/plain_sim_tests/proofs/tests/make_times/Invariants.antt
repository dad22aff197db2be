use Rattle.std.proofs.Common.{◌≡◌}
use Rattle.plain_sim_tests.proofs.tests.make_times.Given as goal

abbrev pub invariant-loop-time : goal.invariant-loop-time
invariant-loop-time g l = l.run.netlist ≡ l.flat
