use Rattle.std.proofs.Common.{◌≡◌, map}
use Rattle.module_parts.specs.declared.parts.PortRuns.{PortRuns}
use Rattle.module_parts.proofs.instances.terminals_of.Given as goal

abbrev pub invariant-loop-connection : goal.invariant-loop-connection
invariant-loop-connection l = l.list ≡ map (λ (c : PortRuns). c.runs) l.yielded
