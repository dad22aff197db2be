use Rattle.std.proofs.Common.{◌≡◌, ◌+◌, length}
use Rattle.v_lexer.specs.Bytes.{plus}
use Rattle.v_lexer.specs.Gaps.{comment_end}
use Rattle.v_lexer.proofs.gaps.comment_end.Given as goal

abbrev pub invariant-loop-rest : goal.invariant-loop-rest
invariant-loop-rest l = (plus l.len (comment_end l.rest) ≡ comment_end l.text) × (l.len + length l.rest ≡ length l.text)

abbrev pub decreases-loop-rest : goal.decreases-loop-rest
decreases-loop-rest l = length l.rest
