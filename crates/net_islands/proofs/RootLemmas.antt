-- How many roots stand below a number.
use Rattle.std.proofs.Common.{◌≡◌, ◌+◌, ◌-◌, ◌<◌, ◌≤◌, ℕ, zero, suc, Bool, true, false, cond, ◌==◌, List, [], ◌∷◌, ◌++◌, length, get_or, refl, ap, subst, ◌∙◌, arith, inl, inr}
use Rattle.std.specs.List.{All, filter, range_with_len}
use Rattle.std.proofs.lemmas.Bool.{cases_eq, cases_lt, eq-eqb, ne_eqb}
use Rattle.std.proofs.lemmas.List.{length-append}
use Rattle.std.proofs.lemmas.List.Elements.{filter-append, All-map}
use Rattle.net_islands.specs.Leasts.{AreRoots, roots, island_count, island_numbers}
use Rattle.net_islands.proofs.Ranges.{range_more}

module _ (least : List ℕ) where
  abbrev is_root : ℕ → Bool
  is_root net = get_or least net 0 == net

  roots_more : (n : ℕ) → roots least (n + 1) ≡ roots least n ++ cond (is_root n) (n ∷ []) []
  roots_more n = ap (filter is_root) (range_more n) ∙ filter-append is_root (range_with_len 0 n) (n ∷ [])

  one_or_none : (b : Bool) (n : ℕ) → length (cond b (n ∷ []) []) ≡ cond b 1 0
  one_or_none true n = refl
  one_or_none false n = refl

  at_most_one : (b : Bool) → cond b 1 0 ≤ 1
  at_most_one true = omega arith
  at_most_one false = omega arith

  pub root_count_more : (n : ℕ) → length (roots least (n + 1)) ≡ length (roots least n) + cond (is_root n) 1 0
  root_count_more n =
      ap length (roots_more n) ∙ length-append (roots least n) (cond (is_root n) (n ∷ []) [])
      ∙ ap (λ (k : ℕ). length (roots least n) + k) (one_or_none (is_root n) n)

  root_count_rises : (n m : ℕ) → length (roots least n) ≤ length (roots least (n + m))
  root_count_rises n zero = let e : n + 0 ≡ n = omega arith in rw e (omega arith)
  root_count_rises n (suc m) =
      let e : n + suc m ≡ n + m + 1 = omega arith in
      rw e (let h = root_count_rises n m in let s = root_count_more (n + m) in omega arith)

  pub root_count-le : (n m : ℕ) → n ≤ m → length (roots least n) ≤ length (roots least m)
  root_count-le n m le = let e : n + (m - n) ≡ m = omega arith in subst (λ (k : ℕ). length (roots least n) ≤ length (roots least k)) e (root_count_rises n (m - n))

  -- a root has fewer below it than stand below any greater number
  pub root_count-lt : (n m : ℕ) → n < m → get_or least n 0 ≡ n → length (roots least n) < length (roots least m)
  root_count-lt n m lt root =
      let one : cond {A = ℕ} (is_root n) 1 0 ≡ 1 = ap (λ (b : Bool). cond {A = ℕ} b 1 0) (eq-eqb (get_or least n 0) n root) in
      let s = root_count_more n in
      let le = root_count-le (n + 1) m (omega arith) in
      omega arith

  -- no more roots than numbers
  pub root_count-bound : (n : ℕ) → length (roots least n) ≤ n
  root_count-bound zero = omega arith
  root_count-bound (suc n) =
      let h = root_count-bound n in
      let s = root_count_more n in
      let c = at_most_one (is_root n) in
      let e : n + 1 ≡ suc n = omega arith in
      let more : length (roots least (n + 1)) ≤ n + 1 = omega arith in
      subst (λ (k : ℕ). length (roots least k) ≤ k) e more

  abbrev IsRootAt : ℕ → ℕ → Type 0
  IsRootAt n k = (r : ℕ) × (r < n) × (get_or least r 0 ≡ r) × (length (roots least r) ≡ k)

  root-last : (n k : ℕ) → length (roots least n) ≤ k → k < length (roots least (n + 1)) → IsRootAt (suc n) k
  root-last n k le lt = elim (cases_eq (get_or least n 0) n) [
    | inl e ↦
        let one : cond {A = ℕ} (is_root n) 1 0 ≡ 1 = ap (λ (b : Bool). cond {A = ℕ} b 1 0) (eq-eqb (get_or least n 0) n e) in
        let s = root_count_more n in
        let here : length (roots least n) ≡ k = omega arith in
        (n, omega arith, e, here)
    | inr ne ↦
        let none : cond {A = ℕ} (is_root n) 1 0 ≡ 0 = ap (λ (b : Bool). cond {A = ℕ} b 1 0) (ne_eqb (get_or least n 0) n ne) in
        let s = root_count_more n in
        absurd (omega arith)
  ]

  -- each number below the count of roots is that of a root
  pub root-at : (n k : ℕ) → k < length (roots least n) → IsRootAt n k
  root-at zero k lt = absurd (omega arith)
  root-at (suc n) k lt =
      let e : suc n ≡ n + 1 = omega arith in
      let lt' : k < length (roots least (n + 1)) = subst (λ (m : ℕ). k < length (roots least m)) e lt in
      elim (cases_lt k (length (roots least n))) [
        | inl below ↦ let r = root-at n k below in (r.0, (let h = r.1 in omega arith), r.2, r.3)
        | inr le ↦ root-last n k le lt'
      ]

  -- the number of each net is below the count of islands
  pub numbers-below : AreRoots least → All (λ number. number < island_count least) (island_numbers least)
  numbers-below are =
      All-map (λ (number : ℕ). number < island_count least) (λ (n : ℕ). length (roots least n)) least
      (λ k d lt. let r = are k d lt in root_count-lt (get_or least k d) (length least) r.0 r.1)
