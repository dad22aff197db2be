use Rattle.std.proofs.Common.{◌≡◌, ◌+◌, ◌<◌, drop, set}
use Rattle.timing_wheel.proofs.Least.{IsLeastTreeBut}
use Rattle.timing_wheel.proofs.least_tree.LeastTree.set.Given as goal

abbrev pub invariant-loop-cell : goal.invariant-loop-cell
invariant-loop-cell l =
    (0 < l.cell) × (l.cell < l.self-inside.leaves + l.self-inside.leaves) × IsLeastTreeBut l.self-inside.cells.items l.self-inside.leaves l.cell
    × (drop l.self-inside.leaves l.self-inside.cells.items ≡ set l.fn.self l.leaf l.time)

abbrev pub decreases-loop-cell : goal.decreases-loop-cell
decreases-loop-cell l = l.cell
