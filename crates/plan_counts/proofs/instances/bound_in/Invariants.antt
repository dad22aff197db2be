use Rattle.std.proofs.Common.{◌≡◌, sum_by, take}
use Rattle.plan_counts.specs.PartCounts.{bound_bits}
use Rattle.plan_counts.proofs.instances.bound_in.Given as goal

abbrev pub invariant-loop-connection : goal.invariant-loop-connection
invariant-loop-connection l = l.bits ≡ sum_by (bound_bits l.scope l.widths) (take l.connection-index l.connections)
