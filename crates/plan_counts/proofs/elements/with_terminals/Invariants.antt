use Rattle.std.proofs.Common.{◌≡◌, ◌+◌, List, take}
use Rattle.std.specs.List.{flat_map}
use Rattle.expression_bits.specs.declared.runs.BitRun.{BitRun}
use Rattle.plan_counts.specs.PartCounts.{literals_width}
use Rattle.plan_counts.proofs.elements.with_terminals.Given as goal

abbrev pub invariant-loop-runs : goal.invariant-loop-runs
invariant-loop-runs l = l.sum ≡ l.count + literals_width (flat_map (λ (list : List BitRun). list) (take l.runs-index l.terminals))
