use Rattle.std.proofs.Common.{◌≡◌, length}
use Rattle.v_lexer.specs.Numbers.{value_after}
use Rattle.v_lexer.proofs.numbers.decimal_value.Given as goal

abbrev pub invariant-loop-rest : goal.invariant-loop-rest
invariant-loop-rest l = value_after l.value l.rest ≡ value_after 0 l.digits

abbrev pub decreases-loop-rest : goal.decreases-loop-rest
decreases-loop-rest l = length l.rest
