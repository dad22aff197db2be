use Rattle.std.proofs.Common.{◌≡◌, ◌+◌, true, length}
use Rattle.v_lexer.specs.Bytes.{plus}
use Rattle.v_lexer.specs.Gaps.{attribute_end}
use Rattle.v_lexer.proofs.Strays.{IsStray}
use Rattle.v_lexer.proofs.gaps.attribute_end.Given as goal

abbrev pub invariant-loop-rest : goal.invariant-loop-rest
invariant-loop-rest l = record {
  so_far : plus l.len (attribute_end 0 l.rest) ≡ attribute_end 0 l.text;
  offset : l.len + length l.rest ≡ length l.text;
  strays : l.stray ≡ true → IsStray l.rest;
}

abbrev pub decreases-loop-rest : goal.decreases-loop-rest
decreases-loop-rest l = length l.rest
