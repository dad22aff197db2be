use Rattle.std.proofs.Common.{length, take}
use Rattle.netlist_plan.specs.Nets.{run_sources}
use Rattle.netlist_plan.specs.Unnamed.{literal_count}
use Rattle.module_nets.specs.Entries.{HasGained}
use Rattle.module_nets.proofs.runs.push_runs.Given as goal

abbrev pub invariant-loop-run : goal.invariant-loop-run
invariant-loop-run l =
    HasGained l.scope l.initial.entries l.entries (run_sources (length l.initial.entries.literal_firsts) (take l.run-index l.runs)) (literal_count (take l.run-index l.runs))
