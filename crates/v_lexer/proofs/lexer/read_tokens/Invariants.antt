use Rattle.std.proofs.Common.{◌≡◌, ◌+◌, ◌≤◌, length}
use Rattle.v_lexer.specs.Tokens.{onto, tokens_from, tokens_of}
use Rattle.v_lexer.proofs.lexer.read_tokens.Given as goal

abbrev pub invariant-loop-rest : goal.invariant-loop-rest
invariant-loop-rest l = record {
  so_far : onto l.tokens.items (tokens_from 0 l.table l.at l.line l.rest) ≡ tokens_of l.text;
  offset : l.at + length l.rest ≡ length l.text;
  line : l.line ≤ l.at + 1;
}

abbrev pub decreases-loop-rest : goal.decreases-loop-rest
decreases-loop-rest l = length l.rest
