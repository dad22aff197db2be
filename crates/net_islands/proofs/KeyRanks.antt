-- Where an item stands in the list of its key.
use Rattle.std.proofs.Common.{◌≡◌, ◌+◌, ℕ, zero, suc, Bool, cond, ◌==◌, List, [], ◌∷◌, length, map, take, Some, refl, sym, ap, ◌∙◌, arith, inl, inr}
use Rattle.std.specs.Prelude.{slice_get}
use Rattle.std.specs.List.{filter, count_by, enumerate_from, zip}
use Rattle.std.proofs.lemmas.Bool.{cases_eq, eq-eqb, ne_eqb}
use Rattle.std.proofs.lemmas.Option.{same_Some, none-some}
use Rattle.std.proofs.lemmas.List.Sums.{sum_by-cons}
use Rattle.net_islands.specs.Keys.{items_of}

module _ {X : Type 0} (key : ℕ) where
  abbrev has_key : ℕ × X → Bool
  has_key item = item.0 == key

  -- how many items before the n-th have the key
  abbrev pub rank : List (ℕ × X) → ℕ → ℕ
  rank items n = count_by has_key (take n items)

  pub items_of-hit : (item : ℕ × X) (items : List (ℕ × X)) → item.0 ≡ key → items_of key (item ∷ items) ≡ item.1 ∷ items_of key items
  items_of-hit item items e =
      ap (λ (b : Bool). map (λ (i : ℕ × X). i.1) (cond b (item ∷ filter has_key items) (filter has_key items))) (eq-eqb item.0 key e)

  pub items_of-miss : (item : ℕ × X) (items : List (ℕ × X)) → (item.0 ≡ key → ⊥) → items_of key (item ∷ items) ≡ items_of key items
  items_of-miss item items ne =
      ap (λ (b : Bool). map (λ (i : ℕ × X). i.1) (cond b (item ∷ filter has_key items) (filter has_key items))) (ne_eqb item.0 key ne)

  rank-hit : (item : ℕ × X) (items : List (ℕ × X)) (n : ℕ) → item.0 ≡ key → rank (item ∷ items) (suc n) ≡ suc (rank items n)
  rank-hit item items n e =
      let one : cond {A = ℕ} (has_key item) 1 0 ≡ 1 = ap (λ (b : Bool). cond {A = ℕ} b 1 0) (eq-eqb item.0 key e) in
      let s = sum_by-cons (λ (i : ℕ × X). cond (has_key i) 1 0) item (take n items) in
      omega arith

  rank-miss : (item : ℕ × X) (items : List (ℕ × X)) (n : ℕ) → (item.0 ≡ key → ⊥) → rank (item ∷ items) (suc n) ≡ rank items n
  rank-miss item items n ne =
      let none : cond {A = ℕ} (has_key item) 1 0 ≡ 0 = ap (λ (b : Bool). cond {A = ℕ} b 1 0) (ne_eqb item.0 key ne) in
      let s = sum_by-cons (λ (i : ℕ × X). cond (has_key i) 1 0) item (take n items) in
      omega arith

  -- an item stands in the list of its key behind those before it
  pub at_rank : (items : List (ℕ × X)) (n : ℕ) (x : X) → slice_get items n ≡ Some (key, x) → slice_get (items_of key items) (rank items n) ≡ Some x
  at_rank [] n x e = absurd (none-some (key, x) e)
  at_rank (item ∷ items) zero x e =
      let same : item ≡ (key, x) = same_Some item (key, x) e in
      let hit = items_of-hit item items (ap (λ (p : ℕ × X). p.0) same) in
      ap (λ (xs : List X). slice_get xs 0) hit ∙ ap (λ (p : ℕ × X). Some p.1) same
  at_rank (item ∷ items) (suc n) x e =
      let rest = at_rank items n x e in
      elim (cases_eq item.0 key) [
        | inl same ↦
            ap (λ (xs : List X). slice_get xs (rank (item ∷ items) (suc n))) (items_of-hit item items same)
            ∙ ap (λ (k : ℕ). slice_get (item.1 ∷ items_of key items) k) (rank-hit item items n same) ∙ rest
        | inr ne ↦
            ap (λ (xs : List X). slice_get xs (rank (item ∷ items) (suc n))) (items_of-miss item items ne)
            ∙ ap (λ (k : ℕ). slice_get (items_of key items) k) (rank-miss item items n ne) ∙ rest
      ]

  -- what stands in the list of a key is an item of it, behind so many
  abbrev pub IsRanked : List (ℕ × X) → ℕ → X → Type 0
  IsRanked items j x = (n : ℕ) × (slice_get items n ≡ Some (key, x)) × (rank items n ≡ j)

  ranked-next : (item : ℕ × X) (items : List (ℕ × X)) (j : ℕ) (x : X) → item.0 ≡ key → IsRanked items j x → IsRanked (item ∷ items) (suc j) x
  ranked-next item items j x e r = (suc r.0, r.1, rank-hit item items r.0 e ∙ ap suc r.2)

  ranked-same : (item : ℕ × X) (items : List (ℕ × X)) (j : ℕ) (x : X) → (item.0 ≡ key → ⊥) → IsRanked items j x → IsRanked (item ∷ items) j x
  ranked-same item items j x ne r = (suc r.0, r.1, rank-miss item items r.0 ne ∙ r.2)

  ranked-first : (item : ℕ × X) (items : List (ℕ × X)) (x : X) → item.0 ≡ key → item.1 ≡ x → IsRanked (item ∷ items) 0 x
  ranked-first item items x e f = (0, ap (λ (k : ℕ). Some (k, item.1)) e ∙ ap (λ (y : X). Some (key, y)) f, refl)

  pub rank_of : (items : List (ℕ × X)) (j : ℕ) (x : X) → slice_get (items_of key items) j ≡ Some x → IsRanked items j x
  rank_of [] j x e = absurd (none-some x e)
  rank_of (item ∷ items) zero x e = elim (cases_eq item.0 key) [
    | inl same ↦
        let here : Some item.1 ≡ Some x = sym (ap (λ (xs : List X). slice_get xs 0) (items_of-hit item items same)) ∙ e in
        ranked-first item items x same (same_Some item.1 x here)
    | inr ne ↦
        let there : slice_get (items_of key items) 0 ≡ Some x = sym (ap (λ (xs : List X). slice_get xs 0) (items_of-miss item items ne)) ∙ e in
        ranked-same item items 0 x ne (rank_of items 0 x there)
  ]
  rank_of (item ∷ items) (suc j) x e = elim (cases_eq item.0 key) [
    | inl same ↦
        let there : slice_get (items_of key items) j ≡ Some x = sym (ap (λ (xs : List X). slice_get xs (suc j)) (items_of-hit item items same)) ∙ e in
        ranked-next item items j x same (rank_of items j x there)
    | inr ne ↦
        let there : slice_get (items_of key items) (suc j) ≡ Some x = sym (ap (λ (xs : List X). slice_get xs (suc j)) (items_of-miss item items ne)) ∙ e in
        ranked-same item items (suc j) x ne (rank_of items (suc j) x there)
  ]

-- elements of a list with their numbers, and of two lists side by side
pub enumerate-at : {X : Type 0} (b : ℕ) (xs : List X) (n : ℕ) (x : X) → slice_get xs n ≡ Some x → slice_get (enumerate_from b xs) n ≡ Some (b + n, x)
enumerate-at b [] n x e = absurd (none-some x e)
enumerate-at {X = X} b (y ∷ xs) zero x e =
    let k : b ≡ b + 0 = omega arith in
    ap (λ (z : X). Some (b, z)) (same_Some y x e) ∙ ap (λ (m : ℕ). Some (m, x)) k
enumerate-at b (y ∷ xs) (suc n) x e =
    let k : b + 1 + n ≡ b + suc n = omega arith in
    enumerate-at (b + 1) xs n x e ∙ ap (λ (m : ℕ). Some (m, x)) k

pub enumerate-at_zero : {X : Type 0} (xs : List X) (n : ℕ) (x : X) → slice_get xs n ≡ Some x → slice_get (enumerate_from 0 xs) n ≡ Some (n, x)
enumerate-at_zero xs n x e = let z : 0 + n ≡ n = omega arith in enumerate-at 0 xs n x e ∙ ap (λ (m : ℕ). Some (m, x)) z

pub enumerate-from : {X : Type 0} (b : ℕ) (xs : List X) (n : ℕ) (p : ℕ × X) → slice_get (enumerate_from b xs) n ≡ Some p → (p.0 ≡ b + n) × (slice_get xs n ≡ Some p.1)
enumerate-from b [] n p e = absurd (none-some p e)
enumerate-from {X = X} b (y ∷ xs) zero p e =
    let same : (b, y) ≡ p = same_Some (b, y) p e in
    let first : b ≡ p.0 = ap (λ (q : ℕ × X). q.0) same in
    (omega arith, ap (λ (q : ℕ × X). Some q.1) same)
enumerate-from b (y ∷ xs) (suc n) p e =
    let h = enumerate-from (b + 1) xs n p e in
    (let k = h.0 in omega arith, h.1)

pub zip-at : {X Y : Type 0} (xs : List X) (ys : List Y) (n : ℕ) (x : X) (y : Y) → slice_get xs n ≡ Some x → slice_get ys n ≡ Some y → slice_get (zip xs ys) n ≡ Some (x, y)
zip-at [] ys n x y e f = absurd (none-some x e)
zip-at (a ∷ xs) [] n x y e f = absurd (none-some y f)
zip-at {X = X} {Y = Y} (a ∷ xs) (b ∷ ys) zero x y e f = ap (λ (z : X). Some (z, b)) (same_Some a x e) ∙ ap (λ (z : Y). Some (x, z)) (same_Some b y f)
zip-at (a ∷ xs) (b ∷ ys) (suc n) x y e f = zip-at xs ys n x y e f

pub zip-from : {X Y : Type 0} (xs : List X) (ys : List Y) (n : ℕ) (p : X × Y) → slice_get (zip xs ys) n ≡ Some p → (slice_get xs n ≡ Some p.0) × (slice_get ys n ≡ Some p.1)
zip-from [] ys n p e = absurd (none-some p e)
zip-from (a ∷ xs) [] n p e = absurd (none-some p e)
zip-from {X = X} {Y = Y} (a ∷ xs) (b ∷ ys) zero p e =
    let same : (a, b) ≡ p = same_Some (a, b) p e in
    (ap (λ (q : X × Y). Some q.0) same, ap (λ (q : X × Y). Some q.1) same)
zip-from (a ∷ xs) (b ∷ ys) (suc n) p e = zip-from xs ys n p e

-- the rank of an item is that of its key among the keys
pub rank-zip : {X : Type 0} (key : ℕ) (keys : List ℕ) (xs : List X) (n : ℕ) → length keys ≡ length xs → rank key (zip keys xs) n ≡ count_by (λ k. k == key) (take n keys)
rank-zip key keys xs zero e = refl
rank-zip key [] xs (suc n) e = refl
rank-zip key (k ∷ keys) [] (suc n) e = absurd (omega arith)
rank-zip {X = X} key (k ∷ keys) (x ∷ xs) (suc n) e =
    let s = sum_by-cons (λ (i : ℕ × X). cond (i.0 == key) 1 0) (k, x) (take n (zip keys xs)) in
    let t = sum_by-cons (λ (i : ℕ). cond (i == key) 1 0) k (take n keys) in
    let rest = rank-zip key keys xs n (omega arith) in
    omega arith
