use Rattle.std.proofs.Common.{◌≡◌, ◌+◌, take}
use Rattle.netlist_plan.specs.Unnamed.{literal_count}
use Rattle.netlist_plan.specs.Elements.{runs_bits}
use Rattle.module_plan.proofs.bits.runs_bits.Given as goal

abbrev pub invariant-loop-run : goal.invariant-loop-run
invariant-loop-run l = record {
  made : l.bits.items ≡ runs_bits l.scope l.nets l.number (take l.run-index l.runs);
  next : l.next ≡ l.number + literal_count (take l.run-index l.runs);
}
