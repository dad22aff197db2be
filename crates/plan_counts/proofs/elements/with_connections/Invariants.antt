use Rattle.std.proofs.Common.{◌≡◌, ◌+◌, take}
use Rattle.std.specs.List.{flat_map}
use Rattle.module_parts.specs.declared.parts.PortRuns.{PortRuns}
use Rattle.plan_counts.specs.PartCounts.{literals_width}
use Rattle.plan_counts.proofs.elements.with_connections.Given as goal

abbrev pub invariant-loop-connection : goal.invariant-loop-connection
invariant-loop-connection l = l.sum ≡ l.count + literals_width (flat_map (λ (c : PortRuns). c.runs) (take l.connection-index l.connections))
