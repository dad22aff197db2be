use Rattle.std.proofs.Common.{◌≡◌, ◌+◌, ◌++◌, take}
use Rattle.netlist_plan.specs.Unnamed.{literal_count}
use Rattle.module_plan.proofs.Steps.{constant_steps}
use Rattle.module_plan.proofs.constants.push_constants.Given as goal

abbrev pub invariant-loop-run : goal.invariant-loop-run
invariant-loop-run l = record {
  made : l.steps ≡ l.initial.steps ++ constant_steps l.nets l.number (take l.run-index l.runs);
  next : l.next ≡ l.number + literal_count (take l.run-index l.runs);
}
