-- What holds of each element of a list, and of each with each later one, by recursion.
use Rattle.std.proofs.Common.{zero, suc, List, [], ◌∷◌, ◌++◌, map, arith}
use Rattle.std.specs.Prelude.{All, AllPairs}
use Rattle.std.specs.List.{AllByRecursion}

module _ {A : Type 0} where
  pub each_append : (P : A → Type 0) (xs ys : List A) → AllByRecursion P xs → AllByRecursion P ys → AllByRecursion P (xs ++ ys)
  each_append P [] ys h k = k
  each_append P (x ∷ xs) ys h k = (h.0, each_append P xs ys h.1 k)

  pub each_front : (P : A → Type 0) (xs ys : List A) → AllByRecursion P (xs ++ ys) → AllByRecursion P xs
  each_front P [] ys h = tt
  each_front P (x ∷ xs) ys h = (h.0, each_front P xs ys h.1)

  pub each_back : (P : A → Type 0) (xs ys : List A) → AllByRecursion P (xs ++ ys) → AllByRecursion P ys
  each_back P [] ys h = h
  each_back P (x ∷ xs) ys h = each_back P xs ys h.1

  pub each_weaker : (P Q : A → Type 0) (xs : List A) → ((x : A) → P x → Q x) → AllByRecursion P xs → AllByRecursion Q xs
  each_weaker P Q [] f h = tt
  each_weaker P Q (x ∷ xs) f h = (f x h.0, each_weaker P Q xs f h.1)

  pub each_map : (P Q : A → Type 0) (g : A → A) (xs : List A) → ((x : A) → P x → Q (g x)) → AllByRecursion P xs → AllByRecursion Q (map g xs)
  each_map P Q g [] f h = tt
  each_map P Q g (x ∷ xs) f h = (f x h.0, each_map P Q g xs f h.1)

  -- R holds of each element and each later one
  abbrev pub Pairs : (A → A → Type 0) → List A → Type 0
  Pairs R [] = Unit {0}
  Pairs R (x ∷ xs) = AllByRecursion (R x) xs × Pairs R xs

  pub pairs_append : (R : A → A → Type 0) (xs ys : List A) → Pairs R xs → Pairs R ys → AllByRecursion (λ x. AllByRecursion (R x) ys) xs → Pairs R (xs ++ ys)
  pairs_append R [] ys h k cross = k
  pairs_append R (x ∷ xs) ys h k cross = (each_append (R x) xs ys h.0 cross.0, pairs_append R xs ys h.1 k cross.1)

  pub pairs_front : (R : A → A → Type 0) (xs ys : List A) → Pairs R (xs ++ ys) → Pairs R xs
  pairs_front R [] ys h = tt
  pairs_front R (x ∷ xs) ys h = (each_front (R x) xs ys h.0, pairs_front R xs ys h.1)

  pub pairs_back : (R : A → A → Type 0) (xs ys : List A) → Pairs R (xs ++ ys) → Pairs R ys
  pairs_back R [] ys h = h
  pairs_back R (x ∷ xs) ys h = pairs_back R xs ys h.1

  pub pairs_cross : (R : A → A → Type 0) (xs ys : List A) → Pairs R (xs ++ ys) → AllByRecursion (λ x. AllByRecursion (R x) ys) xs
  pairs_cross R [] ys h = tt
  pairs_cross R (x ∷ xs) ys h = (each_back (R x) xs ys h.0, pairs_cross R xs ys h.1)

  -- one element more
  pub pairs_push : (R : A → A → Type 0) (xs : List A) (y : A) → Pairs R xs → AllByRecursion (λ x. R x y) xs → Pairs R (xs ++ y ∷ [])
  pairs_push R xs y h last = pairs_append R xs (y ∷ []) h (tt, tt) (each_weaker (λ (x : A). R x y) (λ (x : A). AllByRecursion (R x) (y ∷ [])) xs (λ x r. (r, tt)) last)

  pub pairs_map : (R : A → A → Type 0) (g : A → A) (xs : List A) → ((x y : A) → R x y → R (g x) (g y)) → Pairs R xs → Pairs R (map g xs)
  pairs_map R g [] f h = tt
  pairs_map R g (x ∷ xs) f h = (each_map (R x) (R (g x)) g xs (λ y r. f x y r) h.0, pairs_map R g xs f h.1)

  -- ---- by index

  pub All-from_each : (P : A → Type 0) (xs : List A) → AllByRecursion P xs → All P xs
  All-from_each P [] h k d lt = absurd (omega arith)
  All-from_each P (x ∷ xs) h zero d lt = h.0
  All-from_each P (x ∷ xs) h (suc k) d lt = All-from_each P xs h.1 k d (omega arith)

  pub AllPairs-from_pairs : (R : A → A → Type 0) (xs : List A) → Pairs R xs → AllPairs R xs
  AllPairs-from_pairs R [] h i j d lt inside = absurd (omega arith)
  AllPairs-from_pairs R (x ∷ xs) h zero zero d lt inside = absurd (omega arith)
  AllPairs-from_pairs R (x ∷ xs) h zero (suc j) d lt inside = All-from_each (R x) xs h.0 j d (omega arith)
  AllPairs-from_pairs R (x ∷ xs) h (suc i) zero d lt inside = absurd (omega arith)
  AllPairs-from_pairs R (x ∷ xs) h (suc i) (suc j) d lt inside = AllPairs-from_pairs R xs h.1 i j d (omega arith) (omega arith)
