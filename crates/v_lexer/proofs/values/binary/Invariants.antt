use Rattle.std.proofs.Common.{◌≡◌, ◌-◌, ◌++◌}
use Rattle.v_lexer.specs.Literals.{binary}
use Rattle.v_lexer.proofs.values.binary.Given as goal

abbrev pub invariant-loop-i : goal.invariant-loop-i
invariant-loop-i l = l.bits.items ++ binary (l.n - l.i) l.value ≡ binary l.n l.value
