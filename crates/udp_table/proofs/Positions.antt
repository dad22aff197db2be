-- The first place of a list that passes a test, and where none does.
use Rattle.std.proofs.Common.{◌≡◌, ℕ, zero, suc, ◌+◌, ◌<◌, Bool, true, false, not, cond, List, [], ◌∷◌, length, get_or, refl, arith, nat_lt}
use Rattle.std.specs.Prelude.{Some, None}
use Rattle.std.specs.List.{position, position_or_len}

module _ {X : Type 0} (p : X → Bool) (d : X) where
  before_position : (xs : List X) (k : ℕ) → k < length xs → k < position_or_len p xs → p (get_or xs k d) ≡ false
  before_position [] k h g = absurd (omega arith)
  before_position (x ∷ xs) k h g = by_test (p x) refl (before_position xs) k h g
    where
      by_test : (b : Bool) → p x ≡ b → ((j : ℕ) → j < length xs → j < position_or_len p xs → p (get_or xs j d) ≡ false) → (k : ℕ) → k < suc (length xs) → k < cond (not b) (1 + position_or_len p xs) 0 → p (get_or (x ∷ xs) k d) ≡ false
      by_test true e later k h g = absurd (omega arith)
      by_test false e later zero h g = e
      by_test false e later (suc k) h g = later k (omega arith) (omega arith)

  -- where no place is given none passes
  pub position-None : (xs : List X) → position p xs ≡ None → (k : ℕ) → k < length xs → p (get_or xs k d) ≡ false
  position-None xs e k h = by_test (nat_lt (position_or_len p xs) (length xs)) refl e
    where
      not_below : (a b : ℕ) → nat_lt a b ≡ false → k < b → k < a
      not_below a b l h = grind (arith, l, h)

      by_test : (b : Bool) → nat_lt (position_or_len p xs) (length xs) ≡ b → cond b (Some (position_or_len p xs)) None ≡ None → p (get_or xs k d) ≡ false
      by_test true l e = absurd (let f = e in cc)
      by_test false l e = before_position xs k h (not_below (position_or_len p xs) (length xs) l h)
