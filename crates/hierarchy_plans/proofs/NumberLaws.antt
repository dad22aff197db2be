-- How many flags are set before an index.
use Rattle.std.proofs.Common.{◌≡◌, ℕ, zero, suc, ◌+◌, ◌<◌, Bool, true, false, List, [], ◌∷◌, ◌++◌, length, get_or, map, refl, sym, ap, subst, ◌∙◌, arith}
use Rattle.std.specs.Prelude.{if◌then◌else◌}
use Rattle.std.specs.List.{range_with_len}
use Rattle.netlist_meaning.specs.Plans.{number_among}

next_one : (flags : List Bool) (i : ℕ) (d flag : Bool) → i < length flags → flag ≡ get_or flags i d → number_among flags (suc i) ≡ (if flag then number_among flags i + 1 else number_among flags i)
next_one [] i d flag lt at = absurd (omega arith)
next_one (f ∷ flags) zero d flag lt at = first f flag at
  where
    first : (f flag : Bool) → flag ≡ f → number_among (f ∷ flags) 1 ≡ (if flag then 1 else 0)
    first true true e = refl
    first false false e = refl
    first true false e = absurd cc
    first false true e = absurd cc
next_one (false ∷ flags) (suc i) d flag lt at = next_one flags i d flag (omega arith) at
next_one (true ∷ flags) (suc i) d flag lt at = by_flag flag (next_one flags i d flag (omega arith) at)
  where
    by_flag : (flag : Bool) → number_among flags (suc i) ≡ (if flag then number_among flags i + 1 else number_among flags i)
        → suc (number_among flags (suc i)) ≡ (if flag then suc (number_among flags i) + 1 else suc (number_among flags i))
    by_flag true e = omega (arith, e)
    by_flag false e = omega (arith, e)

pub number-more : (flags : List Bool) (i : ℕ) (d flag : Bool) → i < length flags → flag ≡ get_or flags i d → number_among flags (i + 1) ≡ (if flag then number_among flags i + 1 else number_among flags i)
number-more flags i d flag lt at =
    subst (λ k. number_among flags k ≡ (if flag then number_among flags i + 1 else number_among flags i)) (let next : suc i ≡ i + 1 = omega arith in next) (next_one flags i d flag lt at)

range_one : {X : Type 0} (f : ℕ → X) (a n : ℕ) → map f (range_with_len a (suc n)) ≡ map f (range_with_len a n) ++ f (a + n) ∷ []
range_one f a zero = ap (λ k. f k ∷ []) (let same : a ≡ a + 0 = omega arith in same)
range_one f a (suc n) = ap (λ list. f a ∷ list) (range_one f (a + 1) n ∙ ap (λ k. map f (range_with_len (a + 1) n) ++ f k ∷ []) (let same : a + 1 + n ≡ a + suc n = omega arith in same))

pub range-more : {X : Type 0} (f : ℕ → X) (n : ℕ) → map f (range_with_len 0 (n + 1)) ≡ map f (range_with_len 0 n) ++ f n ∷ []
range-more f n =
    ap (λ k. map f (range_with_len 0 k)) (let next : n + 1 ≡ suc n = omega arith in next) ∙ range_one f 0 n
    ∙ ap (λ k. map f (range_with_len 0 n) ++ f k ∷ []) (let same : 0 + n ≡ n = omega arith in same)
