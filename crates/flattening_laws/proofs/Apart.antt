-- Facts of each element of a list, and lists whose elements all differ, both told from the front.
use Rattle.std.proofs.Common.{◌≡◌, ℕ, zero, suc, List, [], ◌∷◌, ◌++◌, map, Some, None, refl, ap, subst, arith}
use Rattle.std.specs.Prelude.{slice_get}
use Rattle.std.specs.List.{All, AllByRecursion, flat_map}
use Rattle.flat_net.specs.Lists.{AreDistinct}

module _ {X : Type 0} where
  pub each_append : (P : X → Type 0) (xs ys : List X) → AllByRecursion P xs → AllByRecursion P ys → AllByRecursion P (xs ++ ys)
  each_append P [] ys h k = k
  each_append P (x ∷ xs) ys h k = (h.0, each_append P xs ys h.1 k)

  pub each_weaker : (P Q : X → Type 0) (xs : List X) → ((x : X) → P x → Q x) → AllByRecursion P xs → AllByRecursion Q xs
  each_weaker P Q [] f h = tt
  each_weaker P Q (x ∷ xs) f h = (f x h.0, each_weaker P Q xs f h.1)

  pub each_both : (P Q R : X → Type 0) (xs : List X) → ((x : X) → P x → Q x → R x) → AllByRecursion P xs → AllByRecursion Q xs → AllByRecursion R xs
  each_both P Q R [] f h k = tt
  each_both P Q R (x ∷ xs) f h k = (f x h.0 k.0, each_both P Q R xs f h.1 k.1)

  pub each_always : (P : X → Type 0) (xs : List X) → ((x : X) → P x) → AllByRecursion P xs
  each_always P [] f = tt
  each_always P (x ∷ xs) f = (f x, each_always P xs f)

  pub each_at : (P : X → Type 0) (xs : List X) (k : ℕ) (x : X) → AllByRecursion P xs → slice_get xs k ≡ Some x → P x
  each_at P [] k x h e = absurd (let n : None ≡ Some x = e in cc)
  each_at P (y ∷ ys) zero x h e = let same : y ≡ x = cc in subst P same h.0
  each_at P (y ∷ ys) (suc k) x h e = each_at P ys k x h.1 e

  pub each_from_at : (P : X → Type 0) (xs : List X) → ((k : ℕ) (x : X) → slice_get xs k ≡ Some x → P x) → AllByRecursion P xs
  each_from_at P [] f = tt
  each_from_at P (x ∷ xs) f = (f 0 x refl, each_from_at P xs (λ k y e. f (suc k) y e))

  pub each_from_All : (P : X → Type 0) (xs : List X) → All P xs → AllByRecursion P xs
  each_from_All P [] h = tt
  each_from_All P (x ∷ xs) h = (h 0 x (omega arith), each_from_All P xs (λ k d lt. h (suc k) d (omega arith)))

  All_cons : (P : X → Type 0) (x : X) (xs : List X) → P x → All P xs → All P (x ∷ xs)
  All_cons P x xs h k zero d lt = h
  All_cons P x xs h k (suc i) d lt = k i d (omega arith)

  pub All_from_each : (P : X → Type 0) (xs : List X) → AllByRecursion P xs → All P xs
  All_from_each P [] h = λ k d lt. absurd (omega arith)
  All_from_each P (x ∷ xs) h = All_cons P x xs h.0 (All_from_each P xs h.1)

module _ {X Y : Type 0} where
  pub each_map : (P : Y → Type 0) (f : X → Y) (xs : List X) → AllByRecursion (λ x. P (f x)) xs → AllByRecursion P (map f xs)
  each_map P f [] h = tt
  each_map P f (x ∷ xs) h = (h.0, each_map P f xs h.1)

  pub each_of_map : (P : Y → Type 0) (f : X → Y) (xs : List X) → AllByRecursion P (map f xs) → AllByRecursion (λ x. P (f x)) xs
  each_of_map P f [] h = tt
  each_of_map P f (x ∷ xs) h = (h.0, each_of_map P f xs h.1)

  pub each_flat_map : (P : Y → Type 0) (f : X → List Y) (xs : List X) → AllByRecursion (λ x. AllByRecursion P (f x)) xs → AllByRecursion P (flat_map f xs)
  each_flat_map P f [] h = tt
  each_flat_map P f (x ∷ xs) h = each_append P (f x) (flat_map f xs) h.0 (each_flat_map P f xs h.1)

-- ---- lists whose elements all differ

abbrev pub Differ : {X : Type 0} → X → X → Type 0
Differ {X} x y = x ≡ y → ⊥

abbrev pub AreApart : {X : Type 0} → List X → Type 0
AreApart {X} [] = Unit {0}
AreApart {X} (x ∷ xs) = AllByRecursion (Differ x) xs × AreApart xs

module _ {X : Type 0} where
  pub apart_append : (xs ys : List X) → AreApart xs → AreApart ys → AllByRecursion (λ x. AllByRecursion (Differ x) ys) xs → AreApart (xs ++ ys)
  apart_append [] ys h k d = k
  apart_append (x ∷ xs) ys h k d = (each_append (Differ x) xs ys h.0 d.0, apart_append xs ys h.1 k d.1)

  pub distinct_apart : (xs : List X) → AreApart xs → AreDistinct xs
  distinct_apart [] h i j x e f = absurd (let n : None ≡ Some x = e in cc)
  distinct_apart (y ∷ ys) h zero zero x e f = refl
  distinct_apart (y ∷ ys) h zero (suc j) x e f = let same : y ≡ x = cc in absurd (each_at (Differ y) ys j x h.0 f same)
  distinct_apart (y ∷ ys) h (suc i) zero x e f = let same : y ≡ x = cc in absurd (each_at (Differ y) ys i x h.0 e same)
  distinct_apart (y ∷ ys) h (suc i) (suc j) x e f = ap suc (distinct_apart ys h.1 i j x e f)

  pub apart_distinct : (xs : List X) → AreDistinct xs → AreApart xs
  apart_distinct [] h = tt
  apart_distinct (x ∷ xs) h = (
    each_from_at (Differ x) xs (λ k y e same.
        let first : slice_get (x ∷ xs) 0 ≡ Some y = ap (λ (z : X). Some z) same in
        let never : 0 ≡ suc k = h 0 (suc k) y first e in
        omega arith),
    apart_distinct xs (λ i j y e f. let same : suc i ≡ suc j = h (suc i) (suc j) y e f in omega arith),
  )

module _ {X Y : Type 0} where
  -- images of elements that differ, under a function that keeps them so
  pub apart_map : (f : X → Y) (xs : List X) → ((x y : X) → f x ≡ f y → x ≡ y) → AreApart xs → AreApart (map f xs)
  apart_map f [] one h = tt
  apart_map f (x ∷ xs) one h = (
    each_map (Differ (f x)) f xs (each_weaker (Differ x) (λ y. Differ (f x) (f y)) xs (λ y d e. d (one x y e)) h.0),
    apart_map f xs one h.1,
  )

  -- the same, where it keeps apart what the fact holds of
  pub apart_map_of : (P : X → Type 0) (f : X → Y) (xs : List X) → ((x y : X) → P x → P y → f x ≡ f y → x ≡ y) → AllByRecursion P xs → AreApart xs → AreApart (map f xs)
  apart_map_of P f [] one p h = tt
  apart_map_of P f (x ∷ xs) one p h = (
    each_map (Differ (f x)) f xs (each_both P (Differ x) (λ y. Differ (f x) (f y)) xs (λ y py d e. d (one x y p.0 py e)) p.1 h.0),
    apart_map_of P f xs one p.1 h.1,
  )
