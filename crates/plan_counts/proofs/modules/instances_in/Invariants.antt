use Rattle.std.proofs.Common.{◌≡◌, take}
use Rattle.plan_counts.specs.PartCounts.{instances_in}
use Rattle.plan_counts.proofs.modules.instances_in.Given as goal

abbrev pub invariant-loop-part : goal.invariant-loop-part
invariant-loop-part l = l.count ≡ instances_in (take l.part-index l.parts)
