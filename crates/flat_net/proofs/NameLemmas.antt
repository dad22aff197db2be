-- A name that stands among those before it.
use Rattle.std.proofs.Common.{◌≡◌, ◌<◌, ℕ, zero, suc, Some, None, Bool, true, false, not, ◌&&◌, ◌||◌, List, [], ◌∷◌, length, take, get_or, refl, sym, ap, ◌∙◌, arith}
use Rattle.std.specs.Bool.{Decides}
use Rattle.std.specs.List.{Contains, list_any}
use Rattle.std.specs.Str.{bytes_eq}
use Rattle.std.proofs.lemmas.Slice.Eq.{bytes_eq-Decides}
use Rattle.std.specs.Prelude.{slice_get}
use Rattle.std.proofs.lemmas.Bool.{false_from_ne_true}
use Rattle.std.proofs.lemmas.Bool.Decides.{Decides-at, Decides-and, Decides-not, Decides-like}
use Rattle.std.proofs.lemmas.List.{length-take-le, get_or-take}
use Rattle.std.proofs.lemmas.Option.{slice_get_within, slice_get-get_or, get_or_from_slice_get}
use Rattle.flat_net.specs.Lists.{AreDistinct}
use Rattle.name_table.specs.Names.{is_among, is_distinct}
use Rattle.flat_net.proofs.Decisions.{Decides-list_any}

is_among-any : (name : List ℕ) (names : List (List ℕ)) → is_among name names ≡ list_any (bytes_eq name) names
is_among-any name [] = refl
is_among-any name (other ∷ names) = ap (λ (b : Bool). bytes_eq name other || b) (is_among-any name names)

pub Decides-is_among : (name : List ℕ) (names : List (List ℕ)) → Decides (is_among name names) (Contains names name)
Decides-is_among name names = Decides-at (is_among name names) (list_any (bytes_eq name) names) (is_among-any name names) (Decides-list_any bytes_eq bytes_eq-Decides name names)

contains_at : {X : Type 0} (xs : List X) (k : ℕ) (x : X) → slice_get xs k ≡ Some x → Contains xs x
contains_at xs k x e = (k, slice_get_within xs k x e, get_or_from_slice_get xs k x x e)

at_contained : {X : Type 0} (xs : List X) (x : X) → (h : Contains xs x) → slice_get xs h.0 ≡ Some x
at_contained {X = X} xs x h = slice_get-get_or xs h.0 x h.1 ∙ ap (λ (y : X). Some y) h.2

module _ {X : Type 0} (x : X) (xs : List X) where
  distinct-cons : (Contains xs x → ⊥) × AreDistinct xs → AreDistinct (x ∷ xs)
  distinct-cons h zero zero z e f = refl
  distinct-cons h zero (suc j) z e f = let same : x ≡ z = cc in absurd (h.0 (contains_at xs j x (f ∙ ap (λ (y : X). Some y) (sym same))))
  distinct-cons h (suc i) zero z e f = let same : x ≡ z = cc in absurd (h.0 (contains_at xs i x (e ∙ ap (λ (y : X). Some y) (sym same))))
  distinct-cons h (suc i) (suc j) z e f = ap suc (h.1 i j z e f)

  distinct-rest : AreDistinct (x ∷ xs) → (Contains xs x → ⊥) × AreDistinct xs
  distinct-rest h = (
    λ there. let never : 0 ≡ suc there.0 = h 0 (suc there.0) x refl (at_contained xs x there) in omega arith,
    λ i j z e f. let same : suc i ≡ suc j = h (suc i) (suc j) z e f in omega arith,
  )

pub Decides-is_distinct : (names : List (List ℕ)) → Decides (is_distinct names) (AreDistinct names)
Decides-is_distinct [] = (λ _ i j x e f. absurd (let n : None ≡ Some x = e in cc), λ _. refl)
Decides-is_distinct (name ∷ names) =
    Decides-like (not (is_among name names) && is_distinct names) (distinct-cons name names) (distinct-rest name names)
    (Decides-and (not (is_among name names)) (is_distinct names) (Decides-not (is_among name names) (Decides-is_among name names)) (Decides-is_distinct names))

repeated_at : (names : List (List ℕ)) (i : ℕ) (x : List ℕ) → slice_get names i ≡ Some x → Contains (take i names) x → AreDistinct names → ⊥
repeated_at names i x e there distinct =
    let within : i < length names = slice_get_within names i x e in
    let short : length (take i names) ≡ i = length-take-le i names (omega arith) in
    let lt : there.0 < i = let l = there.1 in omega arith in
    let old : get_or names there.0 x ≡ x = sym (get_or-take i names there.0 x lt) ∙ there.2 in
    let first : slice_get names there.0 ≡ Some x = slice_get-get_or names there.0 x (omega arith) ∙ ap (λ (y : List ℕ). Some y) old in
    let same : there.0 ≡ i = distinct there.0 i x first e in
    omega arith

-- a name that stands among those before it is a second one
pub repeated : (names : List (List ℕ)) (i : ℕ) (x : List ℕ) → slice_get names i ≡ Some x → is_among x (take i names) ≡ true → is_distinct names ≡ false
repeated names i x e among =
    let there = (Decides-is_among x (take i names)).0 among in
    false_from_ne_true (is_distinct names) (λ all. repeated_at names i x e there ((Decides-is_distinct names).0 all))

pub true_from_not : (b : Bool) → not b ≡ false → b ≡ true
true_from_not true e = refl
true_from_not false e = let f : true ≡ false = e in cc
