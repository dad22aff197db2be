use Rattle.std.proofs.Common.{◌≡◌, ◌+◌, ◌++◌, take}
use Rattle.module_parts.specs.declared.parts.PortRuns.{PortRuns}
use Rattle.module_nets.proofs.Sources.{literals_in}
use Rattle.module_plan.proofs.Steps.{constants_in}
use Rattle.module_plan.proofs.constants.push_connection_constants.Given as goal

abbrev pub invariant-loop-connection : goal.invariant-loop-connection
invariant-loop-connection l = record {
  made : l.steps ≡ l.initial.steps ++ constants_in l.nets (λ (c : PortRuns). c.runs) l.number (take l.connection-index l.connections);
  next : l.next ≡ l.number + literals_in (λ (c : PortRuns). c.runs) (take l.connection-index l.connections);
}
