use Rattle.std.proofs.Common.{◌≡◌, ◌++◌, length}
use Rattle.v_lexer.specs.Literals.{bits_of}
use Rattle.v_lexer.proofs.values.bits_of.Given as goal

abbrev pub invariant-loop-rest : goal.invariant-loop-rest
invariant-loop-rest l = l.bits.items ++ bits_of l.base l.rest ≡ bits_of l.base l.digits

abbrev pub decreases-loop-rest : goal.decreases-loop-rest
decreases-loop-rest l = length l.rest
