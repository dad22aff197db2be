-- What is told, after one more piece.
use Rattle.std.proofs.Common.{◌≡◌, ℕ, ◌+◌, List, ◌++◌, take, drop, Option, None, Some, refl, ap, append_assoc}
use Rattle.std.proofs.Math.Seq.{take-add}
use Rattle.outside_io.specs.Outside.{told_with, Gains}

-- two texts one after another
pub told_with-append : (old : Option (List ℕ)) (a b : List ℕ) → told_with (told_with old a) b ≡ told_with old (a ++ b)
told_with-append None a b = refl
told_with-append (Some old) a b = ap (λ text. Some text) (append_assoc old a b)

-- the first `at` bytes of a text, and then the first `n` of the others
pub Gains-take-add : (old between new : Option (List ℕ)) (text rest : List ℕ) (at n : ℕ) → rest ≡ drop at text → Gains old between (take at text) → Gains between new (take n rest) → Gains old new (take (at + n) text)
Gains-take-add old between new text rest at n others first then_ =
    let both = told_with-append old (take at text) (take n (drop at text)) in
    let one = take-add at n text in
    cc
