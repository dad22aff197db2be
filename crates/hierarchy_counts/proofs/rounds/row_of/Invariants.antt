use Rattle.std.proofs.Common.{◌≡◌, take}
use Rattle.hierarchy_counts.specs.Rounds.{row_of}
use Rattle.hierarchy_counts.proofs.rounds.row_of.Given as goal

abbrev pub invariant-loop-instance : goal.invariant-loop-instance
invariant-loop-instance l = l.row ≡ row_of l.modules l.table (take l.instance-index l.list)
