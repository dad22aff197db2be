use Rattle.std.proofs.Common.{◌≡◌, take}
use Rattle.std.specs.List.{flat_map}
use Rattle.plan_counts.specs.PartCounts.{part_counts}
use Rattle.plan_counts.proofs.instances.instance_counts.Given as goal

abbrev pub invariant-loop-part : goal.invariant-loop-part
invariant-loop-part l = l.counts.items ≡ flat_map (part_counts l.scope l.widths) (take l.part-index l.parts)
