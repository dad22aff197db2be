use Rattle.std.proofs.Common.{◌≤◌, ◌+◌, length}
use Rattle.line_text.specs.Lines.{lines_behind}
use Rattle.vector_text.proofs.ReadingLemmas.{HasRead}
use Rattle.vector_text.proofs.reading.body_in.Given as goal

abbrev pub invariant-loop-line : goal.invariant-loop-line
invariant-loop-line l = HasRead l.version (lines_behind l.before l.text) l.body (lines_behind l.number l.rest) × (l.number + length l.rest ≤ 16777216)

abbrev pub decreases-loop-line : goal.decreases-loop-line
decreases-loop-line l = length l.rest
