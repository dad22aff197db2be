-- One turn of a loop that reads parts.
use Rattle.std.proofs.Common.{◌≡◌, ℕ, suc, ◌+◌, ◌-◌, ◌<◌, Bool, true, false, List, [], ◌∷◌, ◌++◌, Ok, refl, sym, ap, ◌∙◌, arith}
use Rattle.v_tree.specs.Written.{Form}
use Rattle.v_parser.specs.Input.{Input, Outcome, Reader, front, next, is_mark, after_comma, commas_from, many_from}

-- a turn is left, so one is taken
pub left_over : (n k : ℕ) → k < n → n - k ≡ suc (n - (k + 1))
left_over n k below = omega arith

commas_more : {A : Type 0} (p : Reader A) (m : ℕ) (found : List A) (i j : Input) (x : A) → is_mark 44 (front i) ≡ true → p (next i) ≡ Ok (x, j)
    → commas_from p (suc m) found i ≡ commas_from p m (found ++ x ∷ []) j
unfolding commas_from
commas_more p m found i j x comma read = rw (comma, read) refl

-- a part behind a comma is read
pub commas_step : {A : Type 0} (p : Reader A) (n k : ℕ) (found : List A) (i j : Input) (x : A) (all : Outcome (List A)) → k < n → is_mark 44 (front i) ≡ true
    → p (after_comma i) ≡ Ok (x, j) → commas_from p (n - k) found i ≡ all → commas_from p (n - (k + 1)) (found ++ x ∷ []) j ≡ all
commas_step p n k found i j x all below comma read so_far =
    let read_next : p (next i) ≡ Ok (x, j) = rw comma at read in
    sym (commas_more p (n - (k + 1)) found i j x comma read_next) ∙ ap (λ m. commas_from p m found i) (sym (left_over n k below)) ∙ so_far

many_more : {A : Type 0} (stops : Form → Bool) (p : Reader A) (m : ℕ) (found : List A) (i j : Input) (x : A) → stops (front i) ≡ false → p i ≡ Ok (x, j)
    → many_from stops p (suc m) found i ≡ many_from stops p m (found ++ x ∷ []) j
unfolding many_from
many_more stops p m found i j x goes read = rw (goes, read) refl

-- a part is read
pub many_step : {A : Type 0} (stops : Form → Bool) (p : Reader A) (n k : ℕ) (found : List A) (i j : Input) (x : A) (all : Outcome (List A)) → k < n → stops (front i) ≡ false
    → p i ≡ Ok (x, j) → many_from stops p (n - k) found i ≡ all → many_from stops p (n - (k + 1)) (found ++ x ∷ []) j ≡ all
many_step stops p n k found i j x all below goes read so_far =
    sym (many_more stops p (n - (k + 1)) found i j x goes read) ∙ ap (λ m. many_from stops p m found i) (sym (left_over n k below)) ∙ so_far
