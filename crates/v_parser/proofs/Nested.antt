-- What doesn't begin with a brace is no concatenation.
use Rattle.std.proofs.Common.{◌≡◌, ℕ, zero, suc, false, refl}
use Rattle.v_parser.specs.Input.{Input, front, is_mark, choice}
use Rattle.v_parser.specs.Expressions.{atom, expr_at}

pub expr_at_atom : (depth : ℕ) (i : Input) → is_mark 123 (front i) ≡ false → expr_at depth i ≡ atom i
unfolding expr_at choice
expr_at_atom zero i other = refl
expr_at_atom (suc depth) i other = rw other refl
