use Rattle.std.proofs.Common.{◌≡◌, ◌+◌, ◌≤◌, length}
use Rattle.v_lexer.specs.Tokens.{lines_after}
use Rattle.v_lexer.proofs.lexer.lines_after.Given as goal

abbrev pub invariant-loop-rest : goal.invariant-loop-rest
invariant-loop-rest l = (lines_after l.line l.rest ≡ lines_after l.fn.line l.fn.bytes) × (l.line + length l.rest ≤ l.fn.line + length l.fn.bytes)

abbrev pub decreases-loop-rest : goal.decreases-loop-rest
decreases-loop-rest l = length l.rest
