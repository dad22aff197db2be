use Rattle.std.proofs.Common.{◌≡◌, ◌+◌, take}
use Rattle.netlist_plan.specs.Elements.{terminal_bits}
use Rattle.module_plan.proofs.RunLists.{list_literals}
use Rattle.module_plan.proofs.bits.terminal_bits.Given as goal

abbrev pub invariant-loop-runs : goal.invariant-loop-runs
invariant-loop-runs l = record {
  made : l.bits.items ≡ terminal_bits l.scope l.nets l.number (take l.runs-index l.terminals);
  next : l.next ≡ l.number + list_literals (take l.runs-index l.terminals);
}
