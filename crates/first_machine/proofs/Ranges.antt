-- What a list gives at the places of a range.
use Rattle.std.proofs.Common.{◌≡◌, ◌≢◌, ℕ, zero, suc, ◌+◌, ◌<◌, ◌≤◌, List, [], ◌∷◌, Option, Some, None, refl, ap, sym, subst, arith, inl, inr, ◌⊎◌}
use Rattle.std.proofs.lemmas.Bool.{cases_eq}
use Rattle.std.specs.List.{filter_map, range_with_len}

-- nothing, where no place gives anything
pub filter_map_none : {Y : Type 0} (f : ℕ → Option Y) (a c : ℕ) → ((k : ℕ) → a ≤ k → k < a + c → f k ≡ None) → filter_map f (range_with_len a c) ≡ []
filter_map_none f a zero none = refl
filter_map_none f a (suc c) none =
    rw (none a (omega arith) (omega arith)) (filter_map_none f (a + 1) c (λ k low high. none k (omega arith) (omega arith)))

-- one value, where one place alone gives one
pub filter_map_one : {Y : Type 0} (f : ℕ → Option Y) (a c j : ℕ) (y : Y) → a ≤ j → j < a + c → f j ≡ Some y → ((k : ℕ) → a ≤ k → k < a + c → k ≢ j → f k ≡ None) → filter_map f (range_with_len a c) ≡ y ∷ []
filter_map_one f a zero j y low high one none = absurd (omega arith)
filter_map_one f a (suc c) j y low high one none =
    elim (cases_eq j a) [
      | inl e ↦
          let here : f a ≡ Some y = subst (λ (n : ℕ). f n ≡ Some y) e one in
          rw here (ap (λ (ys : List _). y ∷ ys) (filter_map_none f (a + 1) c (λ k low' high'. none k (omega arith) (omega arith) (omega arith))))
      | inr ne ↦
          rw (none a (omega arith) (omega arith) (λ e. ne (sym e))) (filter_map_one f (a + 1) c j y (omega arith) (omega arith) one (λ k low' high' ne'. none k (omega arith) (omega arith) ne'))
    ]

-- a number is found at some place, or at none
pub at_some_place : (f : ℕ → ℕ) (count n : ℕ) → ((k : ℕ) × ((k < count) × (f k ≡ n))) ⊎ ((k : ℕ) → k < count → f k ≢ n)
at_some_place f zero n = inr (λ k h. absurd (omega arith))
at_some_place f (suc count) n =
    elim (cases_eq (f count) n) [
      | inl e ↦ inl (count, (omega arith, e))
      | inr ne ↦ elim (at_some_place f count n) [
        | inl w ↦ inl (w.0, (omega arith, w.1.1))
        | inr never ↦ inr (λ k h. elim (cases_eq k count) [
          | inl e ↦ subst (λ (j : ℕ). f j ≢ n) (sym e) ne
          | inr other ↦ never k (omega arith)
        ])
      ]
    ]
