use Rattle.std.proofs.Common.{◌≡◌, ◌++◌, take}
use Rattle.std.specs.List.{flat_map}
use Rattle.netlist_plan.specs.Plan.{run_terminal}
use Rattle.module_plan.proofs.terminals.push_runs.Given as goal

abbrev pub invariant-loop-run : goal.invariant-loop-run
invariant-loop-run l = l.list.items ≡ l.initial.list.items ++ flat_map (run_terminal l.scope l.nets l.location) (take l.run-index l.runs)
