-- What is made of the first elements of a list, one element after the other.
use Rattle.std.proofs.Common.{◌≡◌, ℕ, ◌+◌, ◌<◌, Bool, true, false, List, [], ◌∷◌, ◌++◌, length, get_or, take, map, Option, None, Some, refl, sym, ap, ◌∙◌}
use Rattle.std.specs.Prelude.{◌||◌, not}
use Rattle.std.specs.List.{list_any}
use Rattle.std.specs.Option.{is_none, is_some, option_map, option_map_or, unwrap_or}
use Rattle.std.proofs.lemmas.List.{take_more, map-append}
use Rattle.std.proofs.lemmas.List.Folds.{list_any_more}

module _ {X Y : Type 0} where
  -- one more image
  pub map_more : (f : X → Y) (xs : List X) (i : ℕ) (x : X) → i < length xs → x ≡ get_or xs i x → map f (take (i + 1) xs) ≡ map f (take i xs) ++ f x ∷ []
  map_more f xs i x lt is =
      ap (map f) (take_more xs i x lt ∙ ap (λ (y : X). take i xs ++ y ∷ []) (sym is))
      ∙ map-append f (take i xs) (x ∷ [])

  pub is_none-map : (f : X → Y) (o : Option X) → is_none (option_map f o) ≡ is_none o
  is_none-map f None = refl
  is_none-map f (Some x) = refl

  pub unwrap_or-map : (f : X → Y) (o : Option X) (d : Y) → unwrap_or (option_map f o) d ≡ option_map_or f o d
  unwrap_or-map f None d = refl
  unwrap_or-map f (Some x) d = refl

-- one more test
pub any_more : {X : Type 0} (test : X → Bool) (xs : List X) (i : ℕ) (x : X) → i < length xs → x ≡ get_or xs i x → list_any test (take (i + 1) xs) ≡ (list_any test (take i xs) || test x)
any_more test xs i x lt is =
    list_any_more test xs i x lt ∙ ap (λ y. list_any test (take i xs) || test y) (sym is)

pub none-is : {X : Type 0} (o : Option X) (b : Bool) → is_some o ≡ not b → b ≡ is_none o
none-is None true e = refl
none-is None false e = cc
none-is (Some x) true e = cc
none-is (Some x) false e = refl

-- two tests, of which the second is tried only where the first fails
module _ (before more after : Bool) where
  pub or_first : after ≡ before → before ≡ true → after ≡ (before || more)
  or_first e is = e ∙ is ∙ ap (λ (b : Bool). b || more) (sym is)

  pub or_second : after ≡ more → before ≡ false → after ≡ (before || more)
  or_second e absent = e ∙ ap (λ (b : Bool). b || more) (sym absent)
