-- Whether one of the elements that are marked passes a test, one element after the other.
use Rattle.std.proofs.Common.{◌≡◌, ℕ, zero, suc, ◌+◌, ◌<◌, Bool, true, false, List, [], ◌∷◌, length, get_or, take, refl, sym, ap, ◌∙◌, arith}
use Rattle.std.specs.Prelude.{◌&&◌, ◌||◌}
use Rattle.std.specs.List.{items_where_true, list_any}
use Rattle.std.proofs.Math.Bool.{or_assoc, or-false}

module _ {X : Type 0} (test : X → Bool) where
  -- among the first so many elements
  abbrev any_marked : ℕ → List Bool → List X → Bool
  any_marked i marks xs = list_any test (items_where_true (take i marks) (take i xs))

  any_marked-suc : (marks : List Bool) (xs : List X) (i : ℕ) (b : Bool) (d : X) → i < length marks → i < length xs →
      any_marked (suc i) marks xs ≡ (any_marked i marks xs || (get_or marks i b && test (get_or xs i d)))
  any_marked-suc [] xs i b d few lt = absurd (omega arith)
  any_marked-suc (mark ∷ marks) [] i b d few lt = absurd (omega arith)
  any_marked-suc (true ∷ marks) (x ∷ xs) zero b d few lt = or-false (test x)
  any_marked-suc (false ∷ marks) (x ∷ xs) zero b d few lt = refl
  any_marked-suc (true ∷ marks) (x ∷ xs) (suc i) b d few lt =
      ap (λ (rest : Bool). test x || rest) (any_marked-suc marks xs i b d (omega arith) (omega arith))
      ∙ sym (or_assoc (test x) (any_marked i marks xs) (get_or marks i b && test (get_or xs i d)))
  any_marked-suc (false ∷ marks) (x ∷ xs) (suc i) b d few lt = any_marked-suc marks xs i b d (omega arith) (omega arith)

  -- one more
  pub any_marked-more : (marks : List Bool) (xs : List X) (i : ℕ) (b : Bool) (d : X) → i < length marks → i < length xs →
      list_any test (items_where_true (take (i + 1) marks) (take (i + 1) xs))
      ≡ (list_any test (items_where_true (take i marks) (take i xs)) || (get_or marks i b && test (get_or xs i d)))
  any_marked-more marks xs i b d few lt =
      let next : i + 1 ≡ suc i = omega arith in
      ap (λ (n : ℕ). any_marked n marks xs) next ∙ any_marked-suc marks xs i b d few lt
