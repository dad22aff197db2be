use Rattle.std.proofs.Common.{◌-◌, ◌≡◌, ◌+◌, ◌<◌, get_or}
use Rattle.timing_wheel.proofs.least_tree.LeastTree.least_leaf.Given as goal

abbrev pub invariant-loop-cell : goal.invariant-loop-cell
invariant-loop-cell l = (0 < l.cell) × (l.cell < l.self-inside.leaves + l.self-inside.leaves) × (get_or l.self-inside.cells.items l.cell 0 ≡ get_or l.self-inside.cells.items 1 0)

abbrev pub decreases-loop-cell : goal.decreases-loop-cell
decreases-loop-cell l = l.self-inside.leaves - l.cell
