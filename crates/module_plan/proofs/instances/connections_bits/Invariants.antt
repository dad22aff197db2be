use Rattle.std.proofs.Common.{◌≡◌, ◌+◌, take}
use Rattle.netlist_plan.specs.Elements.{connections_bits}
use Rattle.module_plan.proofs.RunLists.{connection_literals}
use Rattle.module_plan.proofs.instances.connections_bits.Given as goal

abbrev pub invariant-loop-connection : goal.invariant-loop-connection
invariant-loop-connection l = record {
  made : l.list ≡ connections_bits l.scope l.nets l.number (take l.connection-index l.connections);
  next : l.next ≡ l.number + connection_literals (take l.connection-index l.connections);
}
