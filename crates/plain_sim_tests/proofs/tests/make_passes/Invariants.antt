use Rattle.std.proofs.Common.{◌≡◌}
use Rattle.plain_sim_tests.proofs.tests.make_passes.Given as goal

abbrev pub invariant-loop-made : goal.invariant-loop-made
invariant-loop-made g l = l.run.netlist ≡ l.flat
