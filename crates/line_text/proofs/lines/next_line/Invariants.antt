use Rattle.std.proofs.Common.{◌≡◌, ◌≤◌, ◌+◌, length}
use Rattle.line_text.specs.Lines.{lines_behind}
use Rattle.line_text.proofs.lines.next_line.Given as goal

abbrev pub invariant-loop-bytes : goal.invariant-loop-bytes
invariant-loop-bytes l = record {
  so_far : lines_behind l.number l.rest ≡ lines_behind l.before l.text;
  room : l.number + length l.rest ≤ l.before + length l.text;
  shorter : length l.rest ≤ length l.text;
}

abbrev pub decreases-loop-bytes : goal.decreases-loop-bytes
decreases-loop-bytes l = length l.rest
