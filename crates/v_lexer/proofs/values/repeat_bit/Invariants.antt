use Rattle.std.proofs.Common.{◌≡◌, replicate}
use Rattle.v_lexer.proofs.values.repeat_bit.Given as goal

abbrev pub invariant-loop : goal.invariant-loop
invariant-loop l = l.bits.items ≡ replicate l.counter l.bit
