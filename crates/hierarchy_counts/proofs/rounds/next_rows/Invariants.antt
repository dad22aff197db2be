use Rattle.std.proofs.Common.{◌≡◌, map}
use Rattle.std.specs.List.{range_with_len}
use Rattle.hierarchy_counts.specs.Hierarchy.{instances_at}
use Rattle.hierarchy_counts.specs.Rounds.{row_of}
use Rattle.hierarchy_counts.proofs.rounds.next_rows.Given as goal

abbrev pub invariant-loop-index : goal.invariant-loop-index
invariant-loop-index l = l.rows.items ≡ map (λ index. row_of l.modules l.table (instances_at l.instances index)) (range_with_len 0 l.index)
