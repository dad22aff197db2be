use Rattle.std.proofs.Common.{◌≡◌, ◌≤◌, ◌+◌, ◌^◌, length}
use Rattle.first_vectors.specs.Fields.{table_of}
use Rattle.first_vectors.specs.Reading.{rows_of}
use Rattle.first_vectors.proofs.Loops.{with_lines}
use Rattle.first_vectors.proofs.rows.rows_in.Given as goal

abbrev pub invariant-loop-line : goal.invariant-loop-line
invariant-loop-line l = record {
  small : l.least ≤ 2 ^ 40 + 1;
  so_far : with_lines l.lines.items (rows_of l.width l.least (table_of l.rest)) ≡ rows_of l.width 0 (table_of l.text);
}

abbrev pub decreases-loop-line : goal.decreases-loop-line
decreases-loop-line l = length l.rest
