use Rattle.std.proofs.Common.{◌≡◌, ◌-◌, ◌++◌}
use Rattle.v_lexer.specs.Literals.{binary}
use Rattle.expression_bits.proofs.literals.binary.Given as goal

abbrev pub invariant-loop-i : goal.invariant-loop-i
invariant-loop-i l = l.bits.items ++ binary (32 - l.i) l.value ≡ binary 32 l.value
