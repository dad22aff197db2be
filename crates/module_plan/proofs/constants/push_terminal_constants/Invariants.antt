use Rattle.std.proofs.Common.{◌≡◌, ◌+◌, ◌++◌, List, take}
use Rattle.expression_bits.specs.declared.runs.BitRun.{BitRun}
use Rattle.module_nets.proofs.Sources.{literals_in}
use Rattle.module_plan.proofs.Steps.{constants_in}
use Rattle.module_plan.proofs.constants.push_terminal_constants.Given as goal

abbrev pub invariant-loop-runs : goal.invariant-loop-runs
invariant-loop-runs l = record {
  made : l.steps ≡ l.initial.steps ++ constants_in l.nets (λ (list : List BitRun). list) l.number (take l.runs-index l.terminals);
  next : l.next ≡ l.number + literals_in (λ (list : List BitRun). list) (take l.runs-index l.terminals);
}
