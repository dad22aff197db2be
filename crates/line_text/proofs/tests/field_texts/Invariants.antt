-- What is left of the line grows shorter.
use Rattle.std.proofs.Common.{length}
use Rattle.line_text.proofs.tests.field_texts.Given as goal

abbrev pub decreases-loop-field : goal.decreases-loop-field
decreases-loop-field l = length l.rest
