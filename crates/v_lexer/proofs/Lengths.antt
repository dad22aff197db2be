-- Lengths with bytes before them.
use Rattle.std.proofs.Common.{◌≡◌, ℕ, zero, suc, ◌+◌, ◌<◌, false, List, [], ◌∷◌, length, drop, refl, sym, ap, ◌∙◌, arith}
use Rattle.std.specs.Prelude.{Option, Some, None}
use Rattle.v_lexer.specs.Bytes.{begins, plus}
use Rattle.v_lexer.specs.Gaps.{quoted_after, attribute_end}

pub plus_none : (n : ℕ) (len : Option ℕ) → len ≡ None → plus n len ≡ None
plus_none n len e = ap (plus n) e

pub plus_some : (n m : ℕ) (len : Option ℕ) → len ≡ Some m → plus n len ≡ Some (n + m)
plus_some n m len e = ap (plus n) e

pub plus_zero : (len : Option ℕ) → plus 0 len ≡ len
plus_zero (Some n) = let e : 0 + n ≡ n = omega arith in ap Some e
plus_zero None = refl

pub plus_plus : (a b : ℕ) (len : Option ℕ) → plus a (plus b len) ≡ plus (a + b) len
plus_plus a b (Some n) = let e : a + (b + n) ≡ (a + b) + n = omega arith in ap Some e
plus_plus a b None = refl

-- a text in quotes inside an attribute is passed over
pub attribute_end-inside : (inside : ℕ) (bytes : List ℕ) → attribute_end inside bytes ≡ plus inside (attribute_end 0 (drop inside bytes))
unfolding attribute_end
attribute_end-inside zero bytes = sym (plus_zero (attribute_end 0 bytes))
attribute_end-inside (suc inside) [] = refl
attribute_end-inside (suc inside) (byte ∷ bytes) =
    let e : 1 + inside ≡ suc inside = omega arith in
    ap (plus 1) (attribute_end-inside inside bytes) ∙ plus_plus 1 inside (attribute_end 0 (drop inside bytes)) ∙ ap (λ n. plus n (attribute_end 0 (drop inside bytes))) e

attribute_step : (text : List ℕ) → 0 < length text → begins 42 41 text ≡ false
    → attribute_end 0 text ≡ plus (1 + quoted_after text) (attribute_end 0 (drop (1 + quoted_after text) text))
unfolding attribute_end
attribute_step [] some other = absurd (omega arith)
attribute_step (byte ∷ bytes) some other =
    let q : ℕ = quoted_after (byte ∷ bytes) in
    let one : suc q ≡ 1 + q = omega arith in
    rw other (ap (plus 1) (attribute_end-inside q bytes) ∙ plus_plus 1 q (attribute_end 0 (drop q bytes)) ∙ ap (λ n. plus (1 + q) (attribute_end 0 (drop n (byte ∷ bytes)))) one)

pub attribute_goes_on : (len q : ℕ) (text rest after : List ℕ) → q ≡ quoted_after rest → after ≡ drop (1 + q) rest → 0 < length rest → begins 42 41 rest ≡ false
    → plus len (attribute_end 0 rest) ≡ attribute_end 0 text → plus (len + (1 + q)) (attribute_end 0 after) ≡ attribute_end 0 text
attribute_goes_on len q text rest after q-is after-is some other so_far =
    rw (after-is, q-is) (sym (plus_plus len (1 + quoted_after rest) (attribute_end 0 (drop (1 + quoted_after rest) rest))) ∙ ap (plus len) (sym (attribute_step rest some other)) ∙ so_far)

pub ruleset lengths = (plus_zero, plus_plus, plus_none, plus_some, attribute_end-inside)
