use Rattle.std.proofs.Common.{◌≡◌, ◌+◌, take}
use Rattle.plan_counts.specs.PartCounts.{literals_width}
use Rattle.plan_counts.proofs.elements.with_literals.Given as goal

abbrev pub invariant-loop-run : goal.invariant-loop-run
invariant-loop-run l = l.sum ≡ l.count + literals_width (take l.run-index l.runs)
