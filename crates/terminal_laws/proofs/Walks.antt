-- Facts of the elements of lists, of lists with indexes, and of lists that are empty.
use Rattle.std.proofs.Common.{◌≡◌, ℕ, suc, ◌+◌, Bool, true, false, ◌&&◌, ◌||◌, not, List, [], ◌∷◌, ◌++◌, Option, Some, None, refl, subst, arith}
use Rattle.std.specs.Prelude.{MatchOption, slice_get}
use Rattle.std.specs.List.{AllByRecursion, Contains, cons_option, enumerate_from, filter_map, flat_map}
use Rattle.std.proofs.lemmas.List.Elements.{All-contains_itself}
use Rattle.v_tree.specs.declared.locations.Location.{Location}
use Rattle.module_scope.specs.Places.{place_if}
use Rattle.flattening_laws.proofs.Apart.{each_append, each_from_All}

-- ---- tests

pub and_parts : (a b : Bool) → (a && b) ≡ true → (a ≡ true) × (b ≡ true)
and_parts true b e = (refl, e)
and_parts false b e = absurd (let no : false ≡ true = e in cc)

pub or_parts : (a b : Bool) → (a || b) ≡ false → (a ≡ false) × (b ≡ false)
or_parts true b e = absurd (let no : true ≡ false = e in cc)
or_parts false b e = (refl, e)

pub not_true : (a : Bool) → not a ≡ true → a ≡ false
not_true true e = absurd (let no : false ≡ true = e in cc)
not_true false e = refl

pub not_false : (a : Bool) → not a ≡ false → a ≡ true
not_false true e = refl
not_false false e = absurd (let no : true ≡ false = e in cc)

-- a rule without a place isn't broken
pub no_place : (broken : Bool) (location : Location) → place_if broken location ≡ [] → broken ≡ false
no_place true location e = absurd (let no : location ∷ [] ≡ [] = e in cc)
no_place false location e = refl

-- ---- lists

module _ {X : Type 0} where
  pub none_parts : (xs ys : List X) → xs ++ ys ≡ [] → (xs ≡ []) × (ys ≡ [])
  none_parts [] ys e = (refl, e)
  none_parts (x ∷ xs) ys e = absurd (let no : x ∷ (xs ++ ys) ≡ [] = e in cc)

  pub each_parts : (P : X → Type 0) (xs ys : List X) → AllByRecursion P (xs ++ ys) → AllByRecursion P xs × AllByRecursion P ys
  each_parts P [] ys h = (tt, h)
  each_parts P (x ∷ xs) ys h = let rest = each_parts P xs ys h.1 in ((h.0, rest.0), rest.1)

  -- each element of a list is among it
  pub each_itself : (xs : List X) → AllByRecursion (Contains xs) xs
  each_itself xs = each_from_All (Contains xs) xs (All-contains_itself xs)

module _ {X Y : Type 0} where
  pub none_flat_map : (f : X → List Y) (xs : List X) → flat_map f xs ≡ [] → AllByRecursion (λ x. f x ≡ []) xs
  none_flat_map f [] e = tt
  none_flat_map f (x ∷ xs) e = let parts = none_parts (f x) (flat_map f xs) e in (parts.0, none_flat_map f xs parts.1)

  pub each_of_flat_map : (P : Y → Type 0) (f : X → List Y) (xs : List X) → AllByRecursion P (flat_map f xs) → AllByRecursion (λ x. AllByRecursion P (f x)) xs
  each_of_flat_map P f [] h = tt
  each_of_flat_map P f (x ∷ xs) h = let parts = each_parts P (f x) (flat_map f xs) h in (parts.0, each_of_flat_map P f xs parts.1)

  -- what holds of those that are picked out
  pub each_of_picked : (P : Y → Type 0) (f : X → Option Y) (xs : List X) → AllByRecursion P (filter_map f xs) → AllByRecursion (λ x. MatchOption (f x) (Unit {0}) P) xs
  each_of_picked P f [] h = tt
  each_of_picked P f (x ∷ xs) h = let parts = by_pick (f x) (filter_map f xs) h in (parts.0, each_of_picked P f xs parts.1)
    where
      by_pick : (o : Option Y) (ys : List Y) → AllByRecursion P (cons_option o ys) → MatchOption o (Unit {0}) P × AllByRecursion P ys
      by_pick None ys h = (tt, h)
      by_pick (Some y) ys h = (h.0, h.1)

-- ---- lists with indexes

module _ {X Y : Type 0} (P : Y → Type 0) (f : ℕ × X → List Y) where
  each_enumerated_from : (n : ℕ) (xs : List X) → ((k : ℕ) (x : X) → slice_get xs k ≡ Some x → AllByRecursion P (f (n + k, x))) → AllByRecursion P (flat_map f (enumerate_from n xs))
  each_enumerated_from n [] g = tt
  each_enumerated_from n (x ∷ xs) g =
      each_append P (f (n, x)) (flat_map f (enumerate_from (n + 1) xs)) (subst (λ k. AllByRecursion P (f (k, x))) (omega arith) (g 0 x refl))
      (each_enumerated_from (n + 1) xs (λ k y e. subst (λ j. AllByRecursion P (f (j, y))) (omega arith) (g (suc k) y e)))

  pub each_enumerated : (xs : List X) → ((k : ℕ) (x : X) → slice_get xs k ≡ Some x → AllByRecursion P (f (k, x))) → AllByRecursion P (flat_map f (enumerate_from 0 xs))
  each_enumerated xs g = each_enumerated_from 0 xs (λ k x e. subst (λ j. AllByRecursion P (f (j, x))) (omega arith) (g k x e))

  pub each_of_enumerated : (n : ℕ) (xs : List X) → AllByRecursion P (flat_map f (enumerate_from n xs)) → AllByRecursion (λ x. (k : ℕ) × AllByRecursion P (f (k, x))) xs
  each_of_enumerated n [] h = tt
  each_of_enumerated n (x ∷ xs) h =
      let parts = each_parts P (f (n, x)) (flat_map f (enumerate_from (n + 1) xs)) h in ((n, parts.0), each_of_enumerated (n + 1) xs parts.1)
