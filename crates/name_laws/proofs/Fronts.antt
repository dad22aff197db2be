-- What holds of a list holds of its front and of its back.
use Rattle.std.proofs.Common.{List, [], ◌∷◌, ◌++◌}
use Rattle.std.specs.List.{AllByRecursion}
use Rattle.flattening_laws.proofs.Apart.{AreApart, Differ}

module _ {X : Type 0} where
  pub each_front : (P : X → Type 0) (xs ys : List X) → AllByRecursion P (xs ++ ys) → AllByRecursion P xs
  each_front P [] ys h = tt
  each_front P (x ∷ xs) ys h = (h.0, each_front P xs ys h.1)

  pub each_back : (P : X → Type 0) (xs ys : List X) → AllByRecursion P (xs ++ ys) → AllByRecursion P ys
  each_back P [] ys h = h
  each_back P (x ∷ xs) ys h = each_back P xs ys h.1

  pub apart_front : (xs ys : List X) → AreApart (xs ++ ys) → AreApart xs
  apart_front [] ys h = tt
  apart_front (x ∷ xs) ys h = (each_front (Differ x) xs ys h.0, apart_front xs ys h.1)

  pub apart_back : (xs ys : List X) → AreApart (xs ++ ys) → AreApart ys
  apart_back [] ys h = h
  apart_back (x ∷ xs) ys h = apart_back xs ys h.1
