-- What is left of the text grows shorter.
use Rattle.std.proofs.Common.{length}
use Rattle.line_text.proofs.tests.line_texts.Given as goal

abbrev pub decreases-loop-before : goal.decreases-loop-before
decreases-loop-before l = length l.rest
