use Rattle.std.proofs.Common.{◌≡◌, ◌≤◌, length}
use Rattle.v_lexer.specs.Literals.{bits_of, needed_len}
use Rattle.v_lexer.specs.Needed.{needed_by}
use Rattle.v_lexer.proofs.literals.needs_32.Given as goal

abbrev pub invariant-loop-rest : goal.invariant-loop-rest
invariant-loop-rest l = (needed_by l.so_far (bits_of l.base l.rest) ≡ needed_len (bits_of l.base l.digits)) × (l.so_far ≤ 32)

abbrev pub decreases-loop-rest : goal.decreases-loop-rest
decreases-loop-rest l = length l.rest
