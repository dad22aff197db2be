-- What each element gives, as a loop collects it.
use Rattle.std.proofs.Common.{◌≡◌, ℕ, suc, ◌+◌, ◌<◌, ◌≤◌, List, [], ◌∷◌, ◌++◌, length, get_or, drop, Option, Some, None, refl, ap, ◌∙◌, append_assoc, add-one, drop-cons}
use Rattle.std.proofs.lemmas.List.{append-nil, drop_all}
use Rattle.gate_net.specs.Steps.{◌>>=◌, each}

-- what was collected, and what the others give
abbrev pub with_front : {B : Type 0} → List B → Option (List B) → Option (List B)
with_front front others = others >>= λ ys. Some (front ++ ys)

with_front-push : {B : Type 0} (front : List B) (y : B) (others : Option (List B)) → with_front front (others >>= λ ys. Some (y ∷ ys)) ≡ with_front (front ++ y ∷ []) others
with_front-push {B} front y (Some ys) = ap (λ (all : List B). Some all) (simp append_assoc)
with_front-push front y None = refl

module _ {A B : Type 0} (f : A → Option B) (xs : List A) (front : List B) (i : ℕ) (so_far : each f xs ≡ with_front front (each f (drop i xs))) where
  pub each_go_on : (d : A) (y : B) → i < length xs → f (get_or xs i d) ≡ Some y → each f xs ≡ with_front (front ++ y ∷ []) (each f (drop (i + 1) xs))
  each_go_on d y lt h =
      so_far ∙ ap (λ (rest : List A). with_front front (each f rest)) (drop-cons xs i d lt) ∙ rw (h, add-one) (with_front-push front y (each f (drop (suc i) xs)))

  pub each_fail : (d : A) → i < length xs → f (get_or xs i d) ≡ None → each f xs ≡ None
  each_fail d lt h = so_far ∙ ap (λ (rest : List A). with_front front (each f rest)) (drop-cons xs i d lt) ∙ rw h refl

  pub each_done : length xs ≤ i → each f xs ≡ Some front
  each_done le = so_far ∙ ap (λ (rest : List A). with_front front (each f rest)) (drop_all i xs le) ∙ ap (λ (all : List B). Some all) (append-nil front)
