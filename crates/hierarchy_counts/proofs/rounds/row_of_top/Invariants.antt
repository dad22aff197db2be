use Rattle.std.proofs.Common.{◌≡◌}
use Rattle.hierarchy_counts.specs.Rounds.{rows}
use Rattle.hierarchy_counts.proofs.rounds.row_of_top.Given as goal

abbrev pub invariant-loop-level : goal.invariant-loop-level
invariant-loop-level l = l.table.items ≡ rows l.modules l.instances l.level
