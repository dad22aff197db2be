-- Lists that are made of the parts of a declaration.
use Rattle.std.proofs.Common.{◌≡◌, ℕ, ◌+◌, ◌<◌, Bool, true, false, cond, not, ◌||◌, List, [], ◌∷◌, ◌++◌, length, get_or, take, map, Option, Some, None, refl, sym, ap, ◌∙◌, arith, length-append}
use Rattle.std.specs.List.{flat_map, list_any, count_by, fold}
use Rattle.std.specs.Option.{option_or}
use Rattle.std.proofs.lemmas.List.{take_more, append-nil}
use Rattle.std.proofs.lemmas.List.Sums.{sum_by-cons}
use Rattle.std.proofs.lemmas.List.Concat.{flat_map-append}
use Rattle.std.proofs.lemmas.List.Folds.{list_any-append}
use Rattle.level_range.specs.declared.range.Logic.{Logic}
use Rattle.primitive_rules.specs.Arguments.{first_value, is_empty}
use Rattle.primitive_rules.specs.Ports.{Start}

module _ {X Y : Type 0} (f : X → List Y) where
  -- a test of some element, part by part
  pub list_any-flat_map : (p : Y → Bool) (xs : List X) → list_any p (flat_map f xs) ≡ list_any (λ x. list_any p (f x)) xs
  list_any-flat_map p [] = refl
  list_any-flat_map p (x ∷ xs) =
      list_any-append p (f x) (flat_map f xs) ∙ ap (λ (b : Bool). list_any p (f x) || b) (list_any-flat_map p xs)

  -- one more part
  pub flat_map_next : (xs : List X) (i : ℕ) (d : X) → i < length xs → flat_map f (take (i + 1) xs) ≡ flat_map f (take i xs) ++ (f (get_or xs i d) ++ [])
  flat_map_next xs i d lt = ap (flat_map f) (take_more xs i d lt) ∙ flat_map-append f (take i xs) (get_or xs i d ∷ [])

  -- none of them is empty where no part is
  pub is_empty-flat_map : (xs : List X) → not (is_empty (flat_map f xs)) ≡ list_any (λ x. not (is_empty (f x))) xs
  is_empty-flat_map [] = refl
  is_empty-flat_map (x ∷ xs) = by (f x) (is_empty-flat_map xs)
    where
      by : (ys : List Y) → not (is_empty (flat_map f xs)) ≡ list_any (λ x. not (is_empty (f x))) xs →
          not (is_empty (ys ++ flat_map f xs)) ≡ (not (is_empty ys) || list_any (λ x. not (is_empty (f x))) xs)
      by [] same = same
      by (y ∷ ys) same = refl

  -- how many there are, where each part has one or none
  pub length-flat_map_single : ((x : X) → length (f x) ≡ cond (not (is_empty (f x))) 1 0) → (xs : List X) → length (flat_map f xs) ≡ count_by (λ x. not (is_empty (f x))) xs
  length-flat_map_single single [] = refl
  length-flat_map_single single (x ∷ xs) =
      length-append (f x) (flat_map f xs)
      ∙ (ap (λ (n : ℕ). n + length (flat_map f xs)) (single x)
      ∙ (ap (λ (n : ℕ). cond (not (is_empty (f x))) 1 0 + n) (length-flat_map_single single xs)
      ∙ sym (sum_by-cons (λ (y : X). cond (not (is_empty (f y))) 1 0) x xs)))

pub is_empty-append : {X : Type 0} (xs ys : List X) → not (is_empty (xs ++ ys)) ≡ (not (is_empty xs) || not (is_empty ys))
is_empty-append [] ys = refl
is_empty-append (x ∷ xs) ys = refl

pub fold-append : {A B : Type 0} (f : B → A → B) (b : B) (xs ys : List A) → fold f b (xs ++ ys) ≡ fold f (fold f b xs) ys
fold-append f b [] ys = refl
fold-append f b (x ∷ xs) ys = fold-append f (f b x) xs ys

-- the first start value of two lists
pub first_value-append : (xs ys : List Start) → first_value (xs ++ ys) ≡ option_or (first_value xs) (first_value ys)
first_value-append [] ys = refl
first_value-append (x ∷ xs) ys = refl

pub list_any-same : {X : Type 0} (p q : X → Bool) → ((x : X) → p x ≡ q x) → (xs : List X) → list_any p xs ≡ list_any q xs
list_any-same p q same [] = refl
list_any-same p q same (x ∷ xs) = ap (λ (b : Bool). b || list_any p xs) (same x) ∙ ap (λ (b : Bool). q x || b) (list_any-same p q same xs)

pub list_any-map : {X Y : Type 0} (p : Y → Bool) (f : X → Y) (xs : List X) → list_any p (map f xs) ≡ list_any (λ x. p (f x)) xs
list_any-map p f [] = refl
list_any-map p f (x ∷ xs) = ap (λ (b : Bool). p (f x) || b) (list_any-map p f xs)

-- a test of some element of a list and of parts behind it
pub list_any-parts : {X Y : Type 0} (p : Y → Bool) (front : List Y) (f : X → List Y) (xs : List X) →
    list_any p (front ++ flat_map f xs) ≡ (list_any p front || list_any (λ x. list_any p (f x)) xs)
list_any-parts p front f xs = list_any-append p front (flat_map f xs) ∙ ap (λ (b : Bool). list_any p front || b) (list_any-flat_map f p xs)

-- the first start value with one more part
pub first_value_more : {X : Type 0} (f : X → List Start) (xs : List X) (i : ℕ) (d : X) → i < length xs →
    first_value (flat_map f (take (i + 1) xs)) ≡ option_or (first_value (flat_map f (take i xs))) (first_value (f (get_or xs i d)))
first_value_more f xs i d lt =
    ap first_value (flat_map_next f xs i d lt)
    ∙ first_value-append (flat_map f (take i xs)) (f (get_or xs i d) ++ [])
    ∙ ap (λ (ss : List Start). option_or (first_value (flat_map f (take i xs))) (first_value ss)) (append-nil (f (get_or xs i d)))
