-- Elements that are all new to the keys before them are distinct.
use Rattle.std.proofs.Common.{◌≡◌, ℕ, zero, suc, Bool, not, ◌&&◌, List, [], ◌∷◌, ◌++◌, Some, None, refl, ap, subst, arith, inl, inr}
use Rattle.std.specs.Prelude.{slice_get}
use Rattle.std.specs.Bool.{Decides}
use Rattle.std.specs.List.{Contains, list_any}
use Rattle.std.proofs.lemmas.Bool.Decides.{Decides-and, Decides-like, Decides-not}
use Rattle.std.proofs.lemmas.List.Elements.{Contains-append_left, Contains-push, Contains-push_cases}
use Rattle.flat_net.specs.Lists.{AreDistinct}
use Rattle.flat_net.specs.Tests.{are_new}
use Rattle.flat_net.proofs.Decisions.{Decides-list_any}

-- distinct elements, none of them among the keys
record AreApart {X : Type 0} (keys xs : List X) : Type 0 where
  distinct : AreDistinct xs
  apart : (k : ℕ) (x : X) → slice_get xs k ≡ Some x → Contains keys x → ⊥

module _ {X : Type 0} (keys : List X) (x : X) (xs : List X) where
  distinct-cons : AreApart (keys ++ x ∷ []) xs → AreDistinct (x ∷ xs)
  distinct-cons h zero zero z e f = refl
  distinct-cons h zero (suc j) z e f =
      let same : x ≡ z = cc in
      absurd (h.apart j z f (subst (λ (y : X). Contains (keys ++ x ∷ []) y) same (Contains-push keys x)))
  distinct-cons h (suc i) zero z e f =
      let same : x ≡ z = cc in
      absurd (h.apart i z e (subst (λ (y : X). Contains (keys ++ x ∷ []) y) same (Contains-push keys x)))
  distinct-cons h (suc i) (suc j) z e f = ap suc (h.distinct i j z e f)

  apart-cons : (Contains keys x → ⊥) → AreApart (keys ++ x ∷ []) xs → (k : ℕ) (y : X) → slice_get (x ∷ xs) k ≡ Some y → Contains keys y → ⊥
  apart-cons new h zero y e there = let same : y ≡ x = cc in new (subst (λ (z : X). Contains keys z) same there)
  apart-cons new h (suc k) y e there = h.apart k y e (Contains-append_left keys (x ∷ []) y there)

  AreApart-cons : (Contains keys x → ⊥) × AreApart (keys ++ x ∷ []) xs → AreApart keys (x ∷ xs)
  AreApart-cons h = record { distinct = distinct-cons h.1; apart = apart-cons h.0 h.1 }

  AreApart-rest : AreApart keys (x ∷ xs) → (Contains keys x → ⊥) × AreApart (keys ++ x ∷ []) xs
  AreApart-rest h = (
    h.apart 0 x refl,
    record {
      distinct = λ i j z e f. let same : suc i ≡ suc j = h.distinct (suc i) (suc j) z e f in omega arith;
      apart = λ k y e there. elim (Contains-push_cases keys x y there) [
        | inl old ↦ h.apart (suc k) y e old
        | inr same ↦
            let first : slice_get (x ∷ xs) 0 ≡ Some y = ap (λ (z : X). Some z) same in
            let never : 0 ≡ suc k = h.distinct 0 (suc k) y first e in
            omega arith
      ];
    },
  )

module _ {X : Type 0} (same : X → X → Bool) (each : (a b : X) → Decides (same a b) (a ≡ b)) where
  Decides-apart : (keys xs : List X) → Decides (are_new same keys xs) (AreApart keys xs)
  Decides-apart keys [] = (λ _. record { distinct = λ i j x e f. absurd (let n : None ≡ Some x = e in cc); apart = λ k x e there. let n : None ≡ Some x = e in cc }, λ _. refl)
  Decides-apart keys (x ∷ xs) =
      Decides-like (not (list_any (same x) keys) && are_new same (keys ++ x ∷ []) xs) (AreApart-cons keys x xs) (AreApart-rest keys x xs)
      (Decides-and (not (list_any (same x) keys)) (are_new same (keys ++ x ∷ []) xs)
      (Decides-not (list_any (same x) keys) (Decides-list_any same each x keys)) (Decides-apart (keys ++ x ∷ []) xs))

  none_there : (x : X) → Contains [] x → ⊥
  none_there x h = let lt = h.1 in omega arith

  pub Decides-are_new : (xs : List X) → Decides (are_new same [] xs) (AreDistinct xs)
  Decides-are_new xs =
      Decides-like (are_new same [] xs) (λ (h : AreApart [] xs). h.distinct)
      (λ (h : AreDistinct xs). record { distinct = h; apart = λ k x e there. none_there x there })
      (Decides-apart [] xs)
