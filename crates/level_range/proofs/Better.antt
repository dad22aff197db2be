-- The better of two bounds: an order by strength, in which one sign wins at equal levels.
use Rattle.std.specs.Prelude.{◌≡◌, ◌≤◌, ◌⊎◌, ℕ, true, false, ◌+◌, ◌*◌, max, ℤ, pos, negsuc, ◌≤ℤ◌, unsigned_abs, nat_lt, if◌then◌else◌, refl}
use Rattle.std.proofs.Common.{arith, inl, inr}
use Rattle.std.proofs.lemmas.Int.{ints}
use Rattle.level_range.specs.Combine.{better_low, better_high}

-- levels by their strength as a lower and as an upper bound
abbrev low_rank : ℤ → ℕ
low_rank (pos n) = 2 * n
low_rank (negsuc n) = 2 * n + 3

abbrev high_rank : ℤ → ℕ
high_rank (pos n) = 2 * n + 1
high_rank (negsuc n) = 2 * n + 2

abbrev better_by : (ℤ → ℕ) → ℤ → ℤ → ℤ
better_by rank x y = if nat_lt (rank x) (rank y) then y else x

better_low-by : (x y : ℤ) → better_low x y ≡ better_by low_rank x y
unfolding better_low
better_low-by x y = grind (arith, ints)

better_high-by : (x y : ℤ) → better_high x y ≡ better_by high_rank x y
unfolding better_high
better_high-by x y = grind (arith, ints)

low_rank-injective : (x y : ℤ) → low_rank x ≡ low_rank y → x ≡ y
low_rank-injective x y e = grind (arith, ints)

high_rank-injective : (x y : ℤ) → high_rank x ≡ high_rank y → x ≡ y
high_rank-injective x y e = grind (arith, ints)

low_rank-between : (x u y : ℤ) → x ≤ℤ u → u ≤ℤ y → low_rank u ≤ max (low_rank x) (low_rank y)
low_rank-between x u y h k = grind (arith, ints)

high_rank-between : (x u y : ℤ) → x ≤ℤ u → u ≤ℤ y → high_rank u ≤ max (high_rank x) (high_rank y)
high_rank-between x u y h k = grind (arith, ints)

module _ (rank : ℤ → ℕ) where
  better_by-assoc : (x y z : ℤ) → better_by rank (better_by rank x y) z ≡ better_by rank x (better_by rank y z)
  better_by-assoc x y z = grind arith

  better_by-picks : (x y : ℤ) → (better_by rank x y ≡ x) ⊎ (better_by rank x y ≡ y)
  better_by-picks x y = elim (nat_lt (rank x) (rank y)) as (λ b. ((if b then y else x) ≡ x) ⊎ ((if b then y else x) ≡ y)) [ true ↦ inr refl | false ↦ inl refl ]

  module _ (injective : (x y : ℤ) → rank x ≡ rank y → x ≡ y)
      (between : (x u y : ℤ) → x ≤ℤ u → u ≤ℤ y → rank u ≤ max (rank x) (rank y)) where
    better_by-monotone : (x u y : ℤ) → x ≤ℤ u → better_by rank x y ≤ℤ better_by rank u y
    better_by-monotone x u y h = grind (arith, ints, between y x u, between x u y, injective x y, injective u y)

-- what is shared by the better lower and the better upper bound, where `Before` says which sign wins
pub record IsBetter (better : ℤ → ℤ → ℤ) (Before : ℤ → ℤ → Type 0) : Type 0 where
  pub comm : (x y : ℤ) → better x y ≡ better y x
  pub zero : (x : ℤ) → better x (pos 0) ≡ x
  pub assoc : (x y z : ℤ) → better (better x y) z ≡ better x (better y z)
  pub monotone : (x u y : ℤ) → x ≤ℤ u → better x y ≤ℤ better u y
  pub picks : (x y : ℤ) → (better x y ≡ x) ⊎ (better x y ≡ y)
  pub strength : (x y : ℤ) → unsigned_abs x ≤ unsigned_abs (better x y)
  pub first : (x y : ℤ) → unsigned_abs x ≡ unsigned_abs (better x y) → Before (better x y) x
  pub before-refl : (x : ℤ) → Before x x
  pub before-trans : (x y z : ℤ) → Before x y → Before y z → Before x z
  pub before-antisym : (x y : ℤ) → Before x y → Before y x → x ≡ y

pub lower : IsBetter better_low (λ x y. x ≤ℤ y)
unfolding better_low
lower = record {
  comm = λ x y. grind (arith, ints);
  zero = λ x. grind (arith, ints);
  assoc = λ x y z. simp better_low-by (better_by-assoc low_rank x y z);
  monotone = λ x u y h. simp better_low-by (better_by-monotone low_rank low_rank-injective low_rank-between x u y h);
  picks = λ x y. simp better_low-by (better_by-picks low_rank x y);
  strength = λ x y. grind (arith, ints);
  first = λ x y e. grind (arith, ints);
  before-refl = λ x. grind (arith, ints);
  before-trans = λ x y z h k. grind (arith, ints);
  before-antisym = λ x y h k. grind (arith, ints);
}

pub upper : IsBetter better_high (λ x y. y ≤ℤ x)
unfolding better_high
upper = record {
  comm = λ x y. grind (arith, ints);
  zero = λ x. grind (arith, ints);
  assoc = λ x y z. simp better_high-by (better_by-assoc high_rank x y z);
  monotone = λ x u y h. simp better_high-by (better_by-monotone high_rank high_rank-injective high_rank-between x u y h);
  picks = λ x y. simp better_high-by (better_by-picks high_rank x y);
  strength = λ x y. grind (arith, ints);
  first = λ x y e. grind (arith, ints);
  before-refl = λ x. grind (arith, ints);
  before-trans = λ x y z h k. grind (arith, ints);
  before-antisym = λ x y h k. grind (arith, ints);
}
