-- Where the elements of lists made of others come from.
use Rattle.std.proofs.Common.{◌≡◌, ◌⊎◌, ℕ, zero, suc, List, [], ◌∷◌, ◌++◌, map, get_or, Some, None, refl, sym, ap, subst, ◌∙◌, arith, inl, inr}
use Rattle.std.specs.Prelude.{slice_get, Option}
use Rattle.std.specs.Option.{option_map}
use Rattle.std.specs.List.{All, AllZip, Contains, flat_map, filter_map, cons_option}
use Rattle.std.proofs.lemmas.Option.{same_Some, none-some, slice_get-map, slice_get-get_or}
use Rattle.std.proofs.lemmas.List.Elements.{Contains-append_left, Contains-append_right}

-- the element is somewhere in the list
abbrev pub IsIn : {X : Type 0} → List X → X → Type 0
IsIn {X} xs x = (i : ℕ) × (slice_get xs i ≡ Some x)

pub append-from : {X : Type 0} (xs ys : List X) (n : ℕ) (x : X) → slice_get (xs ++ ys) n ≡ Some x → IsIn xs x ⊎ IsIn ys x
append-from [] ys n x e = inr (n, e)
append-from (y ∷ xs) ys zero x e = inl (0, e)
append-from {X = X} (y ∷ xs) ys (suc n) x e = elim (append-from xs ys n x e) [
  | inl h ↦ inl (suc h.0, h.1)
  | inr h ↦ inr h
]

-- what `flat_map` and `filter_map` make comes from an element
abbrev pub ComesFrom : {X Y : Type 0} → (X → Y → Type 0) → List X → Y → Type 0
ComesFrom {X} {Y} R xs y = (i : ℕ) × (x : X) × (slice_get xs i ≡ Some x) × R x y

pub flat_map-from : {X Y : Type 0} (f : X → List Y) (xs : List X) (n : ℕ) (y : Y) → slice_get (flat_map f xs) n ≡ Some y → ComesFrom (λ x y. IsIn (f x) y) xs y
flat_map-from f [] n y e = absurd (none-some y e)
flat_map-from f (x ∷ xs) n y e = elim (append-from (f x) (flat_map f xs) n y e) [
  | inl h ↦ (0, x, refl, h)
  | inr h ↦ let r = flat_map-from f xs h.0 y h.1 in (suc r.0, r.1, r.2, r.3)
]

filter_map-one : {X Y : Type 0} (h : X → Option Y) (x : X) (o : Option Y) (rest : List Y) (n : ℕ) (y : Y) → h x ≡ o → slice_get (cons_option o rest) n ≡ Some y →
    (h x ≡ Some y) ⊎ ((m : ℕ) × (slice_get rest m ≡ Some y))
filter_map-one h x None rest n y eo e = inr (n, e)
filter_map-one h x (Some z) rest zero y eo e = inl (eo ∙ e)
filter_map-one h x (Some z) rest (suc n) y eo e = inr (n, e)

pub filter_map-from : {X Y : Type 0} (h : X → Option Y) (xs : List X) (n : ℕ) (y : Y) → slice_get (filter_map h xs) n ≡ Some y → ComesFrom (λ x y. h x ≡ Some y) xs y
filter_map-from h [] n y e = absurd (none-some y e)
filter_map-from h (x ∷ xs) n y e = elim (filter_map-one h x (h x) (filter_map h xs) n y refl e) [
  | inl f ↦ (0, x, refl, f)
  | inr f ↦ let r = filter_map-from h xs f.0 y f.1 in (suc r.0, r.1, r.2, r.3)
]

pub some-map : {X Y : Type 0} (f : X → Y) (o : Option X) (y : Y) → option_map f o ≡ Some y → (x : X) × (o ≡ Some x) × (f x ≡ y)
some-map f None y e = absurd (none-some y e)
some-map f (Some x) y e = (x, refl, same_Some (f x) y e)

pub map-from : {X Y : Type 0} (f : X → Y) (xs : List X) (n : ℕ) (y : Y) → slice_get (map f xs) n ≡ Some y → (x : X) × (slice_get xs n ≡ Some x) × (f x ≡ y)
map-from f xs n y e = some-map f (slice_get xs n) y (sym (slice_get-map f xs n) ∙ e)

pub map-at : {X Y : Type 0} (f : X → Y) (xs : List X) (n : ℕ) (x : X) → slice_get xs n ≡ Some x → slice_get (map f xs) n ≡ Some (f x)
map-at {X = X} f xs n x e = slice_get-map f xs n ∙ ap (λ (o : Option X). option_map f o) e

-- what holds of each element that is there
pub All-from_gets : {X : Type 0} (P : X → Type 0) (xs : List X) → ((k : ℕ) (x : X) → slice_get xs k ≡ Some x → P x) → All P xs
All-from_gets P xs h k d lt = h k (get_or xs k d) (slice_get-get_or xs k d lt)

pub AllZip-maps : {X A B : Type 0} (R : A → B → Type 0) (f : X → A) (g : X → B) (xs : List X) → ((k : ℕ) (x : X) → slice_get xs k ≡ Some x → R (f x) (g x)) → AllZip R (map f xs) (map g xs)
AllZip-maps R f g [] h = tt
AllZip-maps R f g (x ∷ xs) h = (h 0 x refl, AllZip-maps R f g xs (λ k y e. h (suc k) y e))

-- what an element brings is there
pub Contains-from_get : {X : Type 0} (xs : List X) (n : ℕ) (x : X) → slice_get xs n ≡ Some x → Contains xs x
Contains-from_get [] n x e = absurd (none-some x e)
Contains-from_get (y ∷ xs) zero x e = (0, omega arith, same_Some y x e)
Contains-from_get (y ∷ xs) (suc n) x e = let h = Contains-from_get xs n x e in (suc h.0, (let lt = h.1 in omega arith), h.2)

pub Contains-flat_map : {X Y : Type 0} (f : X → List Y) (xs : List X) (n : ℕ) (x : X) (y : Y) → slice_get xs n ≡ Some x → Contains (f x) y → Contains (flat_map f xs) y
Contains-flat_map f [] n x y e h = absurd (none-some x e)
Contains-flat_map {X = X} {Y = Y} f (z ∷ xs) zero x y e h =
    Contains-append_left (f z) (flat_map f xs) y (subst (λ (w : X). Contains (f w) y) (sym (same_Some z x e)) h)
Contains-flat_map f (z ∷ xs) (suc n) x y e h = Contains-append_right (f z) (flat_map f xs) y (Contains-flat_map f xs n x y e h)

-- an element of a list stands among what `flat_map` and `filter_map` make
pub append-right : {X : Type 0} (xs ys : List X) (x : X) → IsIn ys x → IsIn (xs ++ ys) x
append-right [] ys x h = h
append-right (y ∷ xs) ys x h = let r = append-right xs ys x h in (suc r.0, r.1)

pub append-left : {X : Type 0} (xs ys : List X) (n : ℕ) (x : X) → slice_get xs n ≡ Some x → slice_get (xs ++ ys) n ≡ Some x
append-left [] ys n x e = absurd (none-some x e)
append-left (y ∷ xs) ys zero x e = e
append-left (y ∷ xs) ys (suc n) x e = append-left xs ys n x e

pub flat_map-has : {X Y : Type 0} (f : X → List Y) (xs : List X) (n : ℕ) (x : X) (y : Y) → slice_get xs n ≡ Some x → IsIn (f x) y → IsIn (flat_map f xs) y
flat_map-has f [] n x y e h = absurd (none-some x e)
flat_map-has {X = X} f (z ∷ xs) zero x y e h =
    let here : IsIn (f z) y = subst (λ (w : X). IsIn (f w) y) (sym (same_Some z x e)) h in
    (here.0, append-left (f z) (flat_map f xs) here.0 y here.1)
flat_map-has f (z ∷ xs) (suc n) x y e h = append-right (f z) (flat_map f xs) y (flat_map-has f xs n x y e h)

cons-rest : {Y : Type 0} (o : Option Y) (rest : List Y) (y : Y) → IsIn rest y → IsIn (cons_option o rest) y
cons-rest None rest y h = h
cons-rest (Some z) rest y h = (suc h.0, h.1)

cons-first : {Y : Type 0} (o : Option Y) (rest : List Y) (y : Y) → o ≡ Some y → IsIn (cons_option o rest) y
cons-first {Y = Y} o rest y e = (0, ap (λ (p : Option Y). slice_get (cons_option p rest) 0) e)

pub filter_map-has : {X Y : Type 0} (h : X → Option Y) (xs : List X) (n : ℕ) (x : X) (y : Y) → slice_get xs n ≡ Some x → h x ≡ Some y → IsIn (filter_map h xs) y
filter_map-has h [] n x y e f = absurd (none-some x e)
filter_map-has {X = X} h (z ∷ xs) zero x y e f = cons-first (h z) (filter_map h xs) y (ap h (same_Some z x e) ∙ f)
filter_map-has h (z ∷ xs) (suc n) x y e f = cons-rest (h z) (filter_map h xs) y (filter_map-has h xs n x y e f)
