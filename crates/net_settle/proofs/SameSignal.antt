-- A signal by its bounds.
use Rattle.std.proofs.Common.{◌≡◌, ap, ◌∙◌}
use Rattle.std.specs.Prelude.{ℤ}
use Rattle.level_range.specs.Signal.{Signal}

pub same_signal : (s : Signal) (a b : ℤ) → s.lo ≡ a → s.hi ≡ b → s ≡ record { lo = a; hi = b }
same_signal s a b e f =
    let of : ℤ → ℤ → Signal = λ x y. record { lo = x; hi = y } in
    ap (λ x. of x s.hi) e ∙ ap (of a) f
