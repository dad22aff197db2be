-- Lists whose elements are told apart by something of theirs, and what the lists by key make of them.
use Rattle.std.proofs.Common.{◌≡◌, ℕ, zero, suc, List, [], ◌∷◌, ◌++◌, map, Some, None, refl, sym, ap, subst, ◌∙◌, arith, inl, inr}
use Rattle.std.specs.Prelude.{slice_get, Option}
use Rattle.std.specs.List.{flat_map, filter_map, cons_option}
use Rattle.std.proofs.lemmas.Option.{same_Some, none-some}
use Rattle.flat_net.specs.Lists.{AreDistinct}
use Rattle.net_islands.specs.Keys.{items_of}
use Rattle.net_islands.proofs.Finding.{IsIn, append-from, map-from, map-at}
use Rattle.net_islands.proofs.KeyRanks.{rank, at_rank, rank_of}

-- elements at two places differ in what the function gives of them
abbrev pub AreApart : {X Z : Type 0} → (X → Z) → List X → Type 0
AreApart {X} key xs = (i j : ℕ) (a b : X) → slice_get xs i ≡ Some a → slice_get xs j ≡ Some b → key a ≡ key b → i ≡ j

module _ {Y Z : Type 0} (key : Y → Z) where
  -- an element of one list and one of another with the same key
  abbrev Meet : List Y → List Y → Type 0
  Meet xs ys = (a b : Y) × IsIn xs a × IsIn ys b × (key a ≡ key b)

  apart-tail : (x : Y) (xs : List Y) → AreApart key (x ∷ xs) → AreApart key xs
  apart-tail x xs h i j a b e f same = let s : suc i ≡ suc j = h (suc i) (suc j) a b e f same in omega arith

  AreApart-append : (xs ys : List Y) → AreApart key xs → AreApart key ys → (Meet xs ys → ⊥) → AreApart key (xs ++ ys)
  AreApart-append [] ys h k none i j a b e f same = k i j a b e f same
  AreApart-append (x ∷ xs) ys h k none zero zero a b e f same = refl
  AreApart-append (x ∷ xs) ys h k none zero (suc j) a b e f same = elim (append-from xs ys j b f) [
    | inl there ↦ let s : 0 ≡ suc there.0 = h 0 (suc there.0) a b e there.1 same in absurd (omega arith)
    | inr there ↦ absurd (none (a, b, (0, e), there, same))
  ]
  AreApart-append (x ∷ xs) ys h k none (suc i) zero a b e f same = elim (append-from xs ys i a e) [
    | inl there ↦ let s : suc there.0 ≡ 0 = h (suc there.0) 0 a b there.1 f same in absurd (omega arith)
    | inr there ↦ absurd (none (b, a, (0, f), there, sym same))
  ]
  AreApart-append (x ∷ xs) ys h k none (suc i) (suc j) a b e f same =
      ap suc (AreApart-append xs ys (apart-tail x xs h) k (λ m. none (m.0, m.1, (suc m.2.0, m.2.1), m.3, m.4)) i j a b e f same)

  module _ {X : Type 0} (f : X → List Y) where
    -- lists of different elements have no keys in common
    abbrev AreSeparate : List X → Type 0
    AreSeparate xs = (i j : ℕ) (x y : X) → slice_get xs i ≡ Some x → slice_get xs j ≡ Some y → Meet (f x) (f y) → i ≡ j

    met-later : (xs : List X) (z : List Y) → Meet z (flat_map f xs) → (j : ℕ) × (y : X) × (slice_get xs j ≡ Some y) × Meet z (f y)
    met-later [] z m = absurd (none-some m.1 m.3.1)
    met-later (x ∷ xs) z m = elim (append-from (f x) (flat_map f xs) m.3.0 m.1 m.3.1) [
      | inl here ↦ (0, x, refl, (m.0, m.1, m.2, here, m.4))
      | inr rest ↦ let r = met-later xs z (m.0, m.1, m.2, rest, m.4) in (suc r.0, r.1, r.2, r.3)
    ]

    pub AreApart-flat_map : (xs : List X) → ((i : ℕ) (x : X) → slice_get xs i ≡ Some x → AreApart key (f x)) → AreSeparate xs → AreApart key (flat_map f xs)
    AreApart-flat_map [] each separate = λ i j a b e g same. absurd (none-some a e)
    AreApart-flat_map (x ∷ xs) each separate =
        AreApart-append (f x) (flat_map f xs) (each 0 x refl)
        (AreApart-flat_map xs (λ i y e. each (suc i) y e)
        (λ i j y z e g m. let s : suc i ≡ suc j = separate (suc i) (suc j) y z e g m in omega arith))
        (λ m. let r = met-later xs (f x) m in let s : 0 ≡ suc r.0 = separate 0 (suc r.0) x r.1 refl r.2 r.3 in omega arith)

  module _ {X : Type 0} (h : X → Option Y) where
    abbrev one_or_none : X → List Y
    one_or_none x = cons_option (h x) []

    cons-append : (o : Option Y) (rest : List Y) → cons_option o rest ≡ cons_option o [] ++ rest
    cons-append None rest = refl
    cons-append (Some y) rest = refl

    filter_map-flat : (xs : List X) → filter_map h xs ≡ flat_map one_or_none xs
    filter_map-flat [] = refl
    filter_map-flat (x ∷ xs) = cons-append (h x) (filter_map h xs) ∙ ap (λ (ys : List Y). one_or_none x ++ ys) (filter_map-flat xs)

    only : (o : Option Y) (i : ℕ) (a : Y) → slice_get (cons_option o []) i ≡ Some a → (i ≡ 0) × (o ≡ Some a)
    only None i a e = absurd (none-some a e)
    only (Some y) zero a e = (refl, e)
    only (Some y) (suc i) a e = absurd (none-some a e)

    pub AreApart-filter_map : (xs : List X) → ((i j : ℕ) (x y : X) (a b : Y) → slice_get xs i ≡ Some x → slice_get xs j ≡ Some y → h x ≡ Some a → h y ≡ Some b → key a ≡ key b → i ≡ j) →
        AreApart key (filter_map h xs)
    AreApart-filter_map xs separate =
        subst (λ (ys : List Y). AreApart key ys) (sym (filter_map-flat xs))
        (AreApart-flat_map one_or_none xs
        (λ n x e i j a b f g same. (only (h x) i a f).0 ∙ sym (only (h x) j b g).0)
        (λ i j x y e f m. separate i j x y m.0 m.1 e f (only (h x) m.2.0 m.0 m.2.1).1 (only (h y) m.3.0 m.1 m.3.1).1 m.4))

-- items told apart: so are those of each key, and no two keys have one in common
module _ {X Z : Type 0} (key : X → Z) (items : List (ℕ × X)) (apart : AreApart (λ (item : ℕ × X). key item.1) items) where
  abbrev pub keys_of : ℕ → List Z
  keys_of number = map key (items_of number items)

  -- an element of the list of a key is that of an item
  from-item : (number i : ℕ) (z : Z) → slice_get (keys_of number) i ≡ Some z →
      (n : ℕ) × (x : X) × (slice_get items n ≡ Some (number, x)) × (rank number items n ≡ i) × (key x ≡ z)
  from-item number i z e =
      let m = map-from key (items_of number items) i z e in
      let r = rank_of number items i m.0 m.1 in
      (r.0, m.0, r.1, r.2, m.2)

  pub keys-distinct : (number : ℕ) → AreDistinct (keys_of number)
  keys-distinct number i j z e f =
      let a = from-item number i z e in
      let b = from-item number j z f in
      let same : a.0 ≡ b.0 = apart a.0 b.0 (number, a.1) (number, b.1) a.2 b.2 (a.4 ∙ sym b.4) in
      sym a.3 ∙ ap (λ (n : ℕ). rank number items n) same ∙ b.3

  pub keys-separate : (k l : ℕ) (z : Z) → IsIn (keys_of k) z → IsIn (keys_of l) z → k ≡ l
  keys-separate k l z e f =
      let a = from-item k e.0 z e.1 in
      let b = from-item l f.0 z f.1 in
      let same : a.0 ≡ b.0 = apart a.0 b.0 (k, a.1) (l, b.1) a.2 b.2 (a.4 ∙ sym b.4) in
      let one : Some (k, a.1) ≡ Some (l, b.1) = sym a.2 ∙ ap (λ (n : ℕ). slice_get items n) same ∙ b.2 in
      ap (λ (p : ℕ × X). p.0) (same_Some (k, a.1) (l, b.1) one)

-- the list of a key has what its items have
pub keys-has : {X Z : Type 0} (key : X → Z) (items : List (ℕ × X)) (n number : ℕ) (x : X) → slice_get items n ≡ Some (number, x) → IsIn (map key (items_of number items)) (key x)
keys-has key items n number x e = (rank number items n, map-at key (items_of number items) (rank number items n) x (at_rank number items n x e))
