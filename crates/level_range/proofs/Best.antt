-- The best of a list of levels, which wins the choice.
use Rattle.std.specs.Prelude.{◌≡◌, ◌≤◌, ◌⊎◌, ℤ, pos, unsigned_abs, List, [], ◌∷◌, ◌++◌, refl}
use Rattle.std.specs.List.{Contains}
use Rattle.std.specs.List.Sorted.{IsPermutation}
use Rattle.std.proofs.Common.{arith, ap, sym, ◌∙◌, inl, inr, subst}
use Rattle.std.proofs.lemmas.List.Elements.{All-cons, All-tail, All-contains, Contains-append_left, Contains-append_right, Contains-append_cases}
use Rattle.std.proofs.lemmas.List.Sorted.{IsPermutation-cons, IsPermutation-sym, All-permutation, Contains-permutation}
use Rattle.level_range.specs.Combine.{Wins}
use Rattle.level_range.proofs.Better.{IsBetter}

abbrev pub best : (ℤ → ℤ → ℤ) → List ℤ → ℤ
best better [] = pos 0
best better (v ∷ levels) = better v (best better levels)

contains_one : (v w : ℤ) → Contains (v ∷ []) w → w ≡ v
contains_one v w h = All-contains (λ y. y ≡ v) (v ∷ []) w (All-cons (λ y. y ≡ v) v [] refl (λ k d lt. absurd (omega (arith, lt)))) h

-- an element of a list after 0 is the first one or one of the rest after 0
contains_next : (v w : ℤ) (levels : List ℤ) → Contains (pos 0 ∷ v ∷ levels) w → (w ≡ v) ⊎ Contains (pos 0 ∷ levels) w
contains_next v w levels h =
    elim (Contains-append_cases (pos 0 ∷ []) (v ∷ levels) w h) [
      | inl zero ↦ inr (Contains-append_left (pos 0 ∷ []) levels w zero)
      | inr rest ↦ elim (Contains-append_cases (v ∷ []) levels w rest) [
        | inl here ↦ inl (contains_one v w here)
        | inr there ↦ inr (Contains-append_right (pos 0 ∷ []) levels w there)
      ]
    ]

contains_rest : (v w : ℤ) (levels : List ℤ) → Contains (pos 0 ∷ levels) w → Contains (pos 0 ∷ v ∷ levels) w
contains_rest v w levels h =
    elim (Contains-append_cases (pos 0 ∷ []) levels w h) [
      | inl zero ↦ Contains-append_left (pos 0 ∷ []) (v ∷ levels) w zero
      | inr rest ↦ Contains-append_right (pos 0 ∷ v ∷ []) levels w rest
    ]

contains_first : (v : ℤ) (levels : List ℤ) → Contains (pos 0 ∷ v ∷ levels) v
contains_first v levels = (1, omega arith, refl)

-- two levels that win one choice are of equal strength
wins-le : (v w : ℤ) (levels : List ℤ) → Wins levels v → Wins levels w → unsigned_abs v ≤ unsigned_abs w
wins-le v w levels h k =
    All-contains (λ u. unsigned_abs u ≤ unsigned_abs w) (pos 0 ∷ levels) v
    (All-cons (λ u. unsigned_abs u ≤ unsigned_abs w) (pos 0) levels (omega arith) k.1) h.0

module _ (better : ℤ → ℤ → ℤ) (Before : ℤ → ℤ → Type 0) (law : IsBetter better Before) where
  pub best-append : (xs ys : List ℤ) → best better (xs ++ ys) ≡ better (best better xs) (best better ys)
  best-append [] ys = sym (law.comm (pos 0) (best better ys) ∙ law.zero (best better ys))
  best-append (x ∷ xs) ys = ap (better x) (best-append xs ys) ∙ sym (law.assoc x (best better xs) (best better ys))

  strength_right : (x y : ℤ) → unsigned_abs y ≤ unsigned_abs (better x y)
  strength_right x y = rw (law.comm x y) (law.strength y x)

  pub best-wins : (levels : List ℤ) → Wins levels (best better levels)
  best-wins [] = ((0, omega arith, refl), λ k d h. absurd (omega (arith, h)))
  best-wins (v ∷ levels) =
      let rest = best-wins levels in (
        elim (law.picks v (best better levels)) [
          | inl e ↦ subst (Contains (pos 0 ∷ v ∷ levels)) (sym e) (contains_first v levels)
          | inr e ↦ subst (Contains (pos 0 ∷ v ∷ levels)) (sym e) (contains_rest v _ levels rest.0)
        ],
        All-cons (λ u. unsigned_abs u ≤ unsigned_abs (better v (best better levels))) v levels (law.strength v (best better levels))
            (λ k d h. let p = rest.1 k d h in let q = strength_right v (best better levels) in omega arith),
      )

  pub best-first : (levels : List ℤ) (w : ℤ) → Wins levels w → Before (best better levels) w
  best-first [] w h = subst (Before (pos 0)) (sym (contains_one (pos 0) w h.0)) (law.before-refl (pos 0))
  best-first (v ∷ levels) w h =
      let here = best-wins (v ∷ levels) in
      let up = wins-le _ _ (v ∷ levels) here h in
      let down = wins-le _ _ (v ∷ levels) h here in
      elim (contains_next v w levels h.0) [
        | inl e ↦ subst (Before (better v (best better levels))) (sym e)
            (law.first v (best better levels) (let s = ap unsigned_abs e in omega arith))
        | inr rest ↦
            let wins : Wins levels w = (rest, All-tail (λ u. unsigned_abs u ≤ unsigned_abs w) v levels h.1) in
            let a = wins-le _ _ levels wins (best-wins levels) in
            let b = wins-le _ _ levels (best-wins levels) wins in
            law.before-trans _ (best better levels) w
            (rw (law.comm v (best better levels)) (law.first (best better levels) v (rw (law.comm (best better levels) v) (omega arith))))
            (best-first levels w wins)
      ]

  pub best-permutation : (xs ys : List ℤ) → IsPermutation xs ys → best better xs ≡ best better ys
  best-permutation xs ys h =
      law.before-antisym _ _
      (best-first xs _ (wins-permutation ys xs (IsPermutation-sym xs ys h) _ (best-wins ys)))
      (best-first ys _ (wins-permutation xs ys h _ (best-wins xs)))
    where
      wins-permutation : (us vs : List ℤ) → IsPermutation us vs → (v : ℤ) → Wins us v → Wins vs v
      wins-permutation us vs p v w = (
        Contains-permutation (pos 0 ∷ us) (pos 0 ∷ vs) v (IsPermutation-cons (pos 0) us vs p) w.0,
        All-permutation (λ u. unsigned_abs u ≤ unsigned_abs v) us vs p w.1,
      )
