-- A list whose elements are written one after the other.
use Rattle.std.proofs.Common.{◌≡◌, ℕ, ◌+◌, ◌<◌, ◌≤◌, List, length, get_or, refl, ap, sym, ◌∙◌, arith, length-set, get_or-set_same, inl, inr}
use Rattle.std.specs.Prelude.{Some, map, slice_get, slice_set}
use Rattle.std.specs.List.{range_with_len}
use Rattle.std.proofs.lemmas.Bool.{cases_eq}
use Rattle.std.proofs.lemmas.List.{same_lists, get_or_default, get_or-map, length-map, get_or-set_other}
use Rattle.std.proofs.lemmas.List.FromFn.{fill_by_all}
use Rattle.std.proofs.lemmas.Option.{get_or_from_slice_get}

-- the first elements are those of the function, and the others are as before
pub record IsFilled {X : Type 0} (f : ℕ → X) (d : X) (before after : List X) (place : ℕ) : Type 0 where
  pub size : length after ≡ length before
  pub front : (k : ℕ) → k < place → k < length before → get_or after k d ≡ f k
  pub back : (k : ℕ) → place ≤ k → get_or after k d ≡ get_or before k d

module _ {X : Type 0} (f : ℕ → X) (d : X) where
  pub filled-start : (before : List X) → IsFilled f d before before 0
  filled-start before = record { size = refl; front = λ k lt within. absurd (omega arith); back = λ k le. refl }

  pub filled-more : (before after : List X) (place : ℕ) (y : X) → place < length before → y ≡ f place →
      IsFilled f d before after place → IsFilled f d before (slice_set after place y) (place + 1)
  filled-more before after place y within is filled = record {
    size = length-set after place y ∙ filled.size;
    front = λ k lt inside. elim (cases_eq k place) [
      | inl e ↦
          ap (λ i. get_or (slice_set after place y) i d) e
          ∙ get_or-set_same after place y d (let g = filled.size in omega arith) ∙ is ∙ ap f (sym e)
      | inr ne ↦ get_or-set_other after place k y d ne ∙ filled.front k (let g = ne in omega arith) inside
    ];
    back = λ k le. get_or-set_other after place k y d (λ e. omega arith) ∙ filled.back k (omega arith);
  }

  -- an element that is already the function's
  pub filled-kept : (before after : List X) (place : ℕ) → get_or before place d ≡ f place →
      IsFilled f d before after place → IsFilled f d before after (place + 1)
  filled-kept before after place is filled = record {
    size = filled.size;
    front = λ k lt inside. elim (cases_eq k place) [
      | inl e ↦ ap (λ i. get_or after i d) e ∙ filled.back place (omega arith) ∙ is ∙ ap f (sym e)
      | inr ne ↦ filled.front k (let g = ne in omega arith) inside
    ];
    back = λ k le. filled.back k (omega arith);
  }

  pub filled-all : (before after : List X) (n place : ℕ) → length before ≡ n → n ≤ place → IsFilled f d before after place →
      after ≡ map f (range_with_len 0 n)
  filled-all before after n place long all filled =
      fill_by_all f after n d (filled.size ∙ long) (λ k lt. filled.front k (omega arith) (omega arith))

-- the function reads the elements of another list
pub filled-map : {X Y : Type 0} (g : Y → X) (d : X) (e : Y) (from : List Y) (before after : List X) (place : ℕ) →
    length before ≡ length from → length from ≤ place → IsFilled (λ k. g (get_or from k e)) d before after place → after ≡ map g from
filled-map g d e from before after place long all filled =
    same_lists after (map g from) (filled.size ∙ long ∙ sym (length-map from g))
    (λ k x lt.
    let inside : k < length from = (let s = filled.size in omega arith) in
    get_or_default after k x d lt ∙ filled.front k (omega arith) (omega arith) ∙ sym (get_or-map g from k e x inside))
