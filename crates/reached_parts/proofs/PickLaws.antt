-- What is picked by flags, one more at a time.
use Rattle.std.proofs.Common.{◌≡◌, ℕ, zero, suc, ◌+◌, ◌<◌, ◌≤◌, Bool, true, false, ◌&&◌, ◌||◌, List, [], ◌∷◌, ◌++◌, length, get_or, map, take, refl, sym, ap, subst, ◌∙◌, arith}
use Rattle.std.specs.Prelude.{if◌then◌else◌}
use Rattle.std.specs.List.{items_where_true, list_any}

pub any-append : {X : Type 0} (P : X → Bool) (xs ys : List X) → list_any P (xs ++ ys) ≡ (list_any P xs || list_any P ys)
any-append P [] ys = refl
any-append P (x ∷ xs) ys = by_test (P x) (any-append P xs ys)
  where
    by_test : (b : Bool) → list_any P (xs ++ ys) ≡ (list_any P xs || list_any P ys) → (b || list_any P (xs ++ ys)) ≡ ((b || list_any P xs) || list_any P ys)
    by_test true rest = refl
    by_test false rest = rest

module _ {X : Type 0} where
  one_more : (flags : List Bool) (xs : List X) (i : ℕ) (d flag : Bool) (x : X) → i < length flags → i < length xs → flag ≡ get_or flags i d → x ≡ get_or xs i x
      → items_where_true (take (suc i) flags) (take (suc i) xs) ≡ items_where_true (take i flags) (take i xs) ++ (if flag then x ∷ [] else [])
  one_more [] xs i d flag x less lex is at = absurd (omega arith)
  one_more (f ∷ flags) [] i d flag x less lex is at = absurd (omega arith)
  one_more (f ∷ flags) (y ∷ xs) zero d flag x less lex is at = first f flag is at
    where
      first : (f flag : Bool) → flag ≡ f → x ≡ y → items_where_true (f ∷ []) (y ∷ []) ≡ (if flag then x ∷ [] else [])
      first true true e h = ap (λ z. z ∷ []) (sym h)
      first false false e h = refl
      first true false e h = absurd cc
      first false true e h = absurd cc
  one_more (true ∷ flags) (y ∷ xs) (suc i) d flag x less lex is at = ap (λ list. y ∷ list) (one_more flags xs i d flag x (omega arith) (omega arith) is at)
  one_more (false ∷ flags) (y ∷ xs) (suc i) d flag x less lex is at = one_more flags xs i d flag x (omega arith) (omega arith) is at

  pub picked-more : (flags : List Bool) (xs : List X) (i : ℕ) (d flag : Bool) (x : X) → i < length flags → i < length xs → flag ≡ get_or flags i d → x ≡ get_or xs i x
      → items_where_true (take (i + 1) flags) (take (i + 1) xs) ≡ items_where_true (take i flags) (take i xs) ++ (if flag then x ∷ [] else [])
  picked-more flags xs i d flag x less lex is at =
      subst (λ k. items_where_true (take k flags) (take k xs) ≡ items_where_true (take i flags) (take i xs) ++ (if flag then x ∷ [] else []))
      (let next : suc i ≡ i + 1 = omega arith in next) (one_more flags xs i d flag x less lex is at)

  module _ (P : X → Bool) where
    -- some of those that are picked passes
    pub any-found : (flags : List Bool) (xs : List X) (i : ℕ) (d flag : Bool) (x : X) → i < length flags → i < length xs → flag ≡ get_or flags i d → x ≡ get_or xs i x
        → (flag && P x) ≡ true → list_any P (items_where_true flags xs) ≡ true
    any-found [] xs i d flag x less lex is at e = absurd (omega arith)
    any-found (f ∷ flags) [] i d flag x less lex is at e = absurd (omega arith)
    any-found (f ∷ flags) (y ∷ xs) zero d flag x less lex is at e = first f flag is e
      where
        first : (f flag : Bool) → flag ≡ f → (flag && P x) ≡ true → list_any P (items_where_true (f ∷ flags) (y ∷ xs)) ≡ true
        first true true same h = ap (λ b. b || list_any P (items_where_true flags xs)) (ap P (sym at) ∙ h)
        first f false same h = absurd cc
        first false true same h = absurd cc
    any-found (false ∷ flags) (y ∷ xs) (suc i) d flag x less lex is at e = any-found flags xs i d flag x (omega arith) (omega arith) is at e
    any-found (true ∷ flags) (y ∷ xs) (suc i) d flag x less lex is at e = or_true (P y) (any-found flags xs i d flag x (omega arith) (omega arith) is at e)
      where
        or_true : (b : Bool) → list_any P (items_where_true flags xs) ≡ true → (b || list_any P (items_where_true flags xs)) ≡ true
        or_true true h = refl
        or_true false h = h

    any_one : (flag : Bool) (x : X) → (flag && P x) ≡ false → list_any P (if flag then x ∷ [] else []) ≡ false
    any_one true x e = ap (λ b. b || false) e
    any_one false x e = refl

    -- none of one more does
    pub none-more : (flags : List Bool) (xs : List X) (i : ℕ) (d flag : Bool) (x : X) → i < length flags → i < length xs → flag ≡ get_or flags i d → x ≡ get_or xs i x
        → list_any P (items_where_true (take i flags) (take i xs)) ≡ false → (flag && P x) ≡ false → list_any P (items_where_true (take (i + 1) flags) (take (i + 1) xs)) ≡ false
    none-more flags xs i d flag x less lex is at none e =
        ap (list_any P) (picked-more flags xs i d flag x less lex is at)
        ∙ any-append P (items_where_true (take i flags) (take i xs)) (if flag then x ∷ [] else [])
        ∙ ap (λ (b : Bool). b || list_any P (if flag then x ∷ [] else [])) none
        ∙ any_one flag x e

pub any-mapped : {X Y : Type 0} (P : Y → Bool) (f : X → Y) (xs : List X) → list_any P (map f xs) ≡ list_any (λ x. P (f x)) xs
any-mapped P f [] = refl
any-mapped P f (x ∷ xs) = ap (λ b. P (f x) || b) (any-mapped P f xs)

pub map-append : {X Y : Type 0} (f : X → Y) (xs ys : List X) → map f (xs ++ ys) ≡ map f xs ++ map f ys
map-append f [] ys = refl
map-append f (x ∷ xs) ys = ap (λ zs. f x ∷ zs) (map-append f xs ys)
