use Rattle.std.proofs.Common.{◌≡◌, take}
use Rattle.plan_counts.specs.PartCounts.{elements_in}
use Rattle.plan_counts.proofs.elements.elements_in.Given as goal

abbrev pub invariant-loop-part : goal.invariant-loop-part
invariant-loop-part l = l.count ≡ elements_in l.scope l.items (take l.part-index l.parts)
