use Rattle.std.proofs.Common.{length, take}
use Rattle.module_parts.specs.declared.parts.PortRuns.{PortRuns}
use Rattle.module_nets.specs.Entries.{HasGained}
use Rattle.module_nets.proofs.Sources.{literals_in, sources_in}
use Rattle.module_nets.proofs.runs.push_connections.Given as goal

abbrev pub invariant-loop-connection : goal.invariant-loop-connection
invariant-loop-connection l =
    HasGained l.scope l.initial.entries l.entries (sources_in (λ (c : PortRuns). c.runs) (length l.initial.entries.literal_firsts) (take l.connection-index l.connections)) (literals_in (λ (c : PortRuns). c.runs) (take l.connection-index l.connections))
