use Rattle.std.proofs.Common.{◌≡◌, ◌+◌, length}
use Rattle.v_lexer.specs.Bytes.{plus}
use Rattle.v_lexer.specs.Quoted.{quote_end}
use Rattle.v_lexer.proofs.quoted.quote_end.Given as goal

abbrev pub invariant-loop-rest : goal.invariant-loop-rest
invariant-loop-rest l = (plus l.len (quote_end l.before l.rest) ≡ quote_end 34 l.text) × (l.len + length l.rest ≡ length l.text)

abbrev pub decreases-loop-rest : goal.decreases-loop-rest
decreases-loop-rest l = length l.rest
