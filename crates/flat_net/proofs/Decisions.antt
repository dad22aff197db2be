-- What the tests over lists and options decide.
use Rattle.std.proofs.Common.{◌≡◌, ◌+◌, ℕ, zero, suc, Bool, true, ◌&&◌, ◌==◌, List, [], ◌∷◌, length, Some, None, refl, sym, ap, subst, arith}
use Rattle.std.specs.Prelude.{Option, slice_get}
use Rattle.std.specs.Bool.{Decides}
use Rattle.std.specs.Option.{IsSomeAnd}
use Rattle.std.specs.List.{All, AllZip, Contains, list_all, list_any, enumerate_from, zip}
use Rattle.std.proofs.lemmas.Bool.{and_parts, and_from}
use Rattle.std.proofs.lemmas.Bool.Decides.{Decides-and, Decides-like, Decides-by_and, Decides-by_or, Decides-eqb}
use Rattle.std.proofs.lemmas.List.Elements.{Contains-from_at, at_from_Contains}
use Rattle.flat_net.specs.Lists.{EachAt}
use Rattle.flat_net.specs.Tests.{some_and, all_at, all_zip}

pub Decides-some_and : {X : Type 0} (test : X → Bool) (P : X → Type 0) → ((x : X) → Decides (test x) (P x)) → (o : Option X) → Decides (some_and test o) (IsSomeAnd o P)
Decides-some_and test P each None = (λ e. cc, λ h. absurd h)
Decides-some_and test P each (Some x) = each x

pub Decides-list_all : {X : Type 0} (test : X → Bool) (P : X → Type 0) → ((x : X) → Decides (test x) (P x)) → (xs : List X) → Decides (list_all test xs) (All P xs)
Decides-list_all test P each xs = Decides-by_and test P (list_all test) each refl (λ _ _. refl) xs

pub Decides-list_any : {X : Type 0} (same : X → X → Bool) → ((a b : X) → Decides (same a b) (a ≡ b)) → (x : X) (xs : List X) → Decides (list_any (same x) xs) (Contains xs x)
Decides-list_any {X = X} same each x xs =
    Decides-like (list_any (same x) xs) (Contains-from_at xs x) (at_from_Contains xs x)
    (Decides-by_or (same x) (λ (y : X). y ≡ x) (list_any (same x)) (λ y. Decides-like (same x y) sym sym (each x y)) refl (λ _ _. refl) xs)

-- the elements of a list whose first has the number n
abbrev Numbered : {X : Type 0} → (ℕ → X → Type 0) → ℕ → List X → Type 0
Numbered {X} P n xs = (k : ℕ) (x : X) → slice_get xs k ≡ Some x → P (n + k) x

Numbered-cons : {X : Type 0} (P : ℕ → X → Type 0) (n : ℕ) (x : X) (xs : List X) → P n x → Numbered P (n + 1) xs → Numbered P n (x ∷ xs)
Numbered-cons {X = X} P n x xs first rest zero y e =
    let same : x ≡ y = cc in
    let at : n ≡ n + 0 = omega arith in
    subst (λ (m : ℕ). P m y) at (subst (λ (z : X). P n z) same first)
Numbered-cons P n x xs first rest (suc k) y e =
    let at : n + 1 + k ≡ n + suc k = omega arith in
    subst (λ (m : ℕ). P m y) at (rest k y e)

Numbered-first : {X : Type 0} (P : ℕ → X → Type 0) (n : ℕ) (x : X) (xs : List X) → Numbered P n (x ∷ xs) → P n x
Numbered-first P n x xs h = let at : n + 0 ≡ n = omega arith in subst (λ (m : ℕ). P m x) at (h 0 x refl)

Numbered-rest : {X : Type 0} (P : ℕ → X → Type 0) (n : ℕ) (x : X) (xs : List X) → Numbered P n (x ∷ xs) → Numbered P (n + 1) xs
Numbered-rest P n x xs h k y e = let at : n + suc k ≡ n + 1 + k = omega arith in subst (λ (m : ℕ). P m y) at (h (suc k) y e)

Decides-numbered : {X : Type 0} (test : ℕ → X → Bool) (P : ℕ → X → Type 0) → ((k : ℕ) (x : X) → Decides (test k x) (P k x)) → (n : ℕ) (xs : List X)
    → Decides (list_all (λ (p : ℕ × X). test p.0 p.1) (enumerate_from n xs)) (Numbered P n xs)
Decides-numbered test P each n [] = (λ _ k x e. absurd (let f : None ≡ Some x = e in cc), λ _. refl)
Decides-numbered {X = X} test P each n (x ∷ xs) =
    Decides-like (test n x && list_all (λ (p : ℕ × X). test p.0 p.1) (enumerate_from (n + 1) xs))
    (λ (h : P n x × Numbered P (n + 1) xs). Numbered-cons P n x xs h.0 h.1)
    (λ (h : Numbered P n (x ∷ xs)). (Numbered-first P n x xs h, Numbered-rest P n x xs h))
    (Decides-and (test n x) (list_all (λ (p : ℕ × X). test p.0 p.1) (enumerate_from (n + 1) xs)) (each n x) (Decides-numbered test P each (n + 1) xs))

pub Decides-all_at : {X : Type 0} (test : ℕ → X → Bool) (P : ℕ → X → Type 0) → ((k : ℕ) (x : X) → Decides (test k x) (P k x)) → (xs : List X) → Decides (all_at test xs) (EachAt P xs)
Decides-all_at {X = X} test P each xs =
    Decides-like (all_at test xs)
    (λ (h : Numbered P 0 xs) (k : ℕ) (x : X) (e : slice_get xs k ≡ Some x). let at : 0 + k ≡ k = omega arith in subst (λ (m : ℕ). P m x) at (h k x e))
    (λ (h : EachAt P xs) (k : ℕ) (x : X) (e : slice_get xs k ≡ Some x). let at : k ≡ 0 + k = omega arith in subst (λ (m : ℕ). P m x) at (h k x e))
    (Decides-numbered test P each 0 xs)

pub Decides-all_zip : {X Y : Type 0} (test : X → Y → Bool) (R : X → Y → Type 0) → ((x : X) (y : Y) → Decides (test x y) (R x y)) → (xs : List X) (ys : List Y) → Decides (all_zip test xs ys) (AllZip R xs ys)
Decides-all_zip test R each [] [] = (λ _. tt, λ _. refl)
Decides-all_zip test R each [] (y ∷ ys) =
    (λ e. absurd (let f : 0 ≡ suc (length ys) = (Decides-eqb 0 (suc (length ys))).0 (and_parts (0 == suc (length ys)) true e).0 in omega arith), λ h. absurd h)
Decides-all_zip test R each (x ∷ xs) [] =
    (λ e. absurd (let f : suc (length xs) ≡ 0 = (Decides-eqb (suc (length xs)) 0).0 (and_parts (suc (length xs) == 0) true e).0 in omega arith), λ h. absurd h)
Decides-all_zip {X = X} {Y = Y} test R each (x ∷ xs) (y ∷ ys) =
    let rest = Decides-all_zip test R each xs ys in
    let others : Bool = list_all (λ (p : X × Y). test p.0 p.1) (zip xs ys) in (
      λ e.
          let parts = and_parts (suc (length xs) == suc (length ys)) (test x y && others) e in
          let items = and_parts (test x y) others parts.1 in
          let longer : suc (length xs) ≡ suc (length ys) = (Decides-eqb (suc (length xs)) (suc (length ys))).0 parts.0 in
          let long : length xs ≡ length ys = omega arith in
          ((each x y).0 items.0, rest.0 (and_from (length xs == length ys) others ((Decides-eqb (length xs) (length ys)).1 long) items.1)),
      λ h.
          let parts = and_parts (length xs == length ys) others (rest.1 h.1) in
          let long : length xs ≡ length ys = (Decides-eqb (length xs) (length ys)).0 parts.0 in
          and_from (suc (length xs) == suc (length ys)) (test x y && others) ((Decides-eqb (suc (length xs)) (suc (length ys))).1 (ap suc long))
          (and_from (test x y) others ((each x y).1 h.0) parts.1),
    )
