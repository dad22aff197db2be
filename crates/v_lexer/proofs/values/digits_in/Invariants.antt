use Rattle.std.proofs.Common.{◌≡◌, take}
use Rattle.v_lexer.specs.Values.{digits_in}
use Rattle.v_lexer.proofs.values.digits_in.Given as goal

abbrev pub invariant-loop-byte : goal.invariant-loop-byte
invariant-loop-byte l = l.digits.items ≡ digits_in (take l.byte-index l.bytes)
