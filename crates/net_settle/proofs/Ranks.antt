-- The ranks of bounds.
use Rattle.std.proofs.Common.{◌≡◌, ℕ, zero, suc, ◌+◌, ◌*◌, ◌<◌, ◌≤◌, Bool, true, false, cond, refl, ap, arith}
use Rattle.std.specs.Prelude.{ℤ, pos, negsuc, ◌≤ℤ◌}
use Rattle.std.proofs.lemmas.Int.{ints}
use Rattle.level_range.specs.declared.range.Conduct.{Conduct}
use Rattle.level_range.specs.declared.range.Conduct.TheVariants.{On, Off, Unknown}
use Rattle.level_range.specs.Combine.{better_low, better_high}
use Rattle.level_range.specs.Reduce.{reduced_level, reduced_strength}
use Rattle.net_settle.specs.declared.shape.Link.{Link}
use Rattle.net_settle.specs.declared.side.Side.{Side}
use Rattle.net_settle.specs.declared.side.Side.TheVariants.{Lower, Upper}
use Rattle.net_settle.specs.Bounds.{better, is_favoured, favoured_level, opposed_level, carried_bound}
use Rattle.net_settle.specs.Progress.{rank}

pub rank-injective : (side : Side) (x y : ℤ) → rank side x ≡ rank side y → x ≡ y
rank-injective Lower (pos zero) (pos zero) e = refl
rank-injective Lower (pos zero) (pos (suc m)) e = absurd (omega arith)
rank-injective Lower (pos zero) (negsuc m) e = absurd (omega arith)
rank-injective Lower (pos (suc n)) (pos zero) e = absurd (omega arith)
rank-injective Lower (pos (suc n)) (pos (suc m)) e = let k : n ≡ m = omega arith in ap (λ i. pos (suc i)) k
rank-injective Lower (pos (suc n)) (negsuc m) e = absurd (omega arith)
rank-injective Lower (negsuc n) (pos zero) e = absurd (omega arith)
rank-injective Lower (negsuc n) (pos (suc m)) e = absurd (omega arith)
rank-injective Lower (negsuc n) (negsuc m) e = let k : n ≡ m = omega arith in ap negsuc k
rank-injective Upper (pos zero) (pos zero) e = refl
rank-injective Upper (pos zero) (pos (suc m)) e = absurd (omega arith)
rank-injective Upper (pos zero) (negsuc m) e = absurd (omega arith)
rank-injective Upper (pos (suc n)) (pos zero) e = absurd (omega arith)
rank-injective Upper (pos (suc n)) (pos (suc m)) e = let k : n ≡ m = omega arith in ap (λ i. pos (suc i)) k
rank-injective Upper (pos (suc n)) (negsuc m) e = absurd (omega arith)
rank-injective Upper (negsuc n) (pos zero) e = absurd (omega arith)
rank-injective Upper (negsuc n) (pos (suc m)) e = absurd (omega arith)
rank-injective Upper (negsuc n) (negsuc m) e = let k : n ≡ m = omega arith in ap negsuc k

pub rank-none : (side : Side) → rank side (pos 0) ≡ 0
rank-none Lower = refl
rank-none Upper = refl

pub better-from_rank : (side : Side) (x y : ℤ) → rank side x ≤ rank side y → better side x y ≡ y
unfolding better_low better_high
better-from_rank Lower (pos zero) (pos zero) h = grind (arith, ints)
better-from_rank Lower (pos zero) (pos (suc m)) h = grind (arith, ints)
better-from_rank Lower (pos zero) (negsuc m) h = grind (arith, ints)
better-from_rank Lower (pos (suc n)) (pos zero) h = grind (arith, ints)
better-from_rank Lower (pos (suc n)) (pos (suc m)) h = grind (arith, ints)
better-from_rank Lower (pos (suc n)) (negsuc m) h = grind (arith, ints)
better-from_rank Lower (negsuc n) (pos zero) h = grind (arith, ints)
better-from_rank Lower (negsuc n) (pos (suc m)) h = grind (arith, ints)
better-from_rank Lower (negsuc n) (negsuc m) h = grind (arith, ints)
better-from_rank Upper (pos zero) (pos zero) h = grind (arith, ints)
better-from_rank Upper (pos zero) (pos (suc m)) h = grind (arith, ints)
better-from_rank Upper (pos zero) (negsuc m) h = grind (arith, ints)
better-from_rank Upper (pos (suc n)) (pos zero) h = grind (arith, ints)
better-from_rank Upper (pos (suc n)) (pos (suc m)) h = grind (arith, ints)
better-from_rank Upper (pos (suc n)) (negsuc m) h = grind (arith, ints)
better-from_rank Upper (negsuc n) (pos zero) h = grind (arith, ints)
better-from_rank Upper (negsuc n) (pos (suc m)) h = grind (arith, ints)
better-from_rank Upper (negsuc n) (negsuc m) h = grind (arith, ints)

pub rank-from_better : (side : Side) (x y : ℤ) → better side x y ≡ y → rank side x ≤ rank side y
unfolding better_low better_high
rank-from_better Lower (pos zero) (pos zero) h = grind (arith, ints)
rank-from_better Lower (pos zero) (pos (suc m)) h = grind (arith, ints)
rank-from_better Lower (pos zero) (negsuc m) h = grind (arith, ints)
rank-from_better Lower (pos (suc n)) (pos zero) h = grind (arith, ints)
rank-from_better Lower (pos (suc n)) (pos (suc m)) h = grind (arith, ints)
rank-from_better Lower (pos (suc n)) (negsuc m) h = grind (arith, ints)
rank-from_better Lower (negsuc n) (pos zero) h = grind (arith, ints)
rank-from_better Lower (negsuc n) (pos (suc m)) h = grind (arith, ints)
rank-from_better Lower (negsuc n) (negsuc m) h = grind (arith, ints)
rank-from_better Upper (pos zero) (pos zero) h = grind (arith, ints)
rank-from_better Upper (pos zero) (pos (suc m)) h = grind (arith, ints)
rank-from_better Upper (pos zero) (negsuc m) h = grind (arith, ints)
rank-from_better Upper (pos (suc n)) (pos zero) h = grind (arith, ints)
rank-from_better Upper (pos (suc n)) (pos (suc m)) h = grind (arith, ints)
rank-from_better Upper (pos (suc n)) (negsuc m) h = grind (arith, ints)
rank-from_better Upper (negsuc n) (pos zero) h = grind (arith, ints)
rank-from_better Upper (negsuc n) (pos (suc m)) h = grind (arith, ints)
rank-from_better Upper (negsuc n) (negsuc m) h = grind (arith, ints)

-- the rank of a level by its strength
pub rank-favoured_level : (side : Side) (n : ℕ) → rank side (favoured_level side n) ≡ 2 * n
rank-favoured_level Lower zero = refl
rank-favoured_level Lower (suc n) = omega arith
rank-favoured_level Upper zero = refl
rank-favoured_level Upper (suc n) = omega arith

pub rank-opposed_level : (side : Side) (n : ℕ) → 0 < n → rank side (opposed_level side n) + 1 ≡ 2 * n
rank-opposed_level Lower zero h = absurd (omega arith)
rank-opposed_level Lower (suc n) h = omega arith
rank-opposed_level Upper zero h = absurd (omega arith)
rank-opposed_level Upper (suc n) h = omega arith

-- a switch weakens strengths and loses none
weaker : (resistive : Bool) (n : ℕ) → reduced_strength resistive n ≤ n
weaker true n = grind arith
weaker false n = grind arith

positive : (resistive : Bool) (n : ℕ) → 0 < n → 0 < reduced_strength resistive n
positive true n h = grind arith
positive false n h = grind arith

-- a level of the one or of the other sign, or 0
pub data Signed (side : Side) : ℤ → Type 0 where
  none : Signed side (pos 0)
  first : (n : ℕ) → Signed side (favoured_level side (suc n))
  second : (n : ℕ) → Signed side (opposed_level side (suc n))

pub signed : (side : Side) (v : ℤ) → Signed side v
signed Lower (pos zero) = none
signed Lower (pos (suc n)) = second n
signed Lower (negsuc n) = first n
signed Upper (pos zero) = none
signed Upper (pos (suc n)) = first n
signed Upper (negsuc n) = second n

reduced-none : (resistive : Bool) → reduced_level resistive (pos 0) ≡ pos 0
unfolding reduced_level
reduced-none true = refl
reduced-none false = refl

reduced-favoured_level : (side : Side) (resistive : Bool) (n : ℕ) →
    reduced_level resistive (favoured_level side (suc n)) ≡ favoured_level side (reduced_strength resistive (suc n))
unfolding reduced_level
reduced-favoured_level Lower resistive n = refl
reduced-favoured_level Upper resistive n = refl

reduced-opposed_level : (side : Side) (resistive : Bool) (n : ℕ) →
    reduced_level resistive (opposed_level side (suc n)) ≡ opposed_level side (reduced_strength resistive (suc n))
unfolding reduced_level
reduced-opposed_level Lower resistive n = refl
reduced-opposed_level Upper resistive n = refl

-- no bound is better behind a switch
pub rank-reduced : (side : Side) (resistive : Bool) (v : ℤ) → rank side (reduced_level resistive v) ≤ rank side v
rank-reduced side resistive v = by_sign side resistive v (signed side v)
  where
    by_sign : (side : Side) (resistive : Bool) (v : ℤ) → Signed side v → rank side (reduced_level resistive v) ≤ rank side v
    by_sign side resistive _ none = rw (reduced-none resistive) (omega arith)
    by_sign side resistive _ (first n) =
        let w = weaker resistive (suc n) in
        rw (reduced-favoured_level side resistive n, rank-favoured_level side (reduced_strength resistive (suc n)), rank-favoured_level side (suc n)) (omega arith)
    by_sign side resistive _ (second n) =
        let w = weaker resistive (suc n) in
        let p = positive resistive (suc n) (omega arith) in
        let a = rank-opposed_level side (reduced_strength resistive (suc n)) p in
        let b = rank-opposed_level side (suc n) (omega arith) in
        rw (reduced-opposed_level side resistive n) (omega arith)

pub rank-carried : (side : Side) (link : Link) (conduct : Conduct) (v : ℤ) → rank side (carried_bound side link conduct v) ≤ rank side v
rank-carried side link On v = rank-reduced side link.resistive v
rank-carried side link Off v = let z = rank-none side in omega arith
rank-carried side link Unknown v = by_test (is_favoured side v)
  where
    by_test : (b : Bool) → rank side (cond b (reduced_level link.resistive v) (pos 0)) ≤ rank side v
    by_test true = rank-reduced side link.resistive v
    by_test false = let z = rank-none side in omega arith

pub carried-none : (side : Side) (link : Link) (conduct : Conduct) → carried_bound side link conduct (pos 0) ≡ pos 0
carried-none side link conduct =
    let h = rank-carried side link conduct (pos 0) in
    let z = rank-none side in
    rank-injective side _ _ (omega arith)

-- the ranks of signals
pub rank-most : (side : Side) (v : ℤ) → negsuc 6 ≤ℤ v → v ≤ℤ pos 7 → rank side v ≤ 14
rank-most side v low high = by_sign side v (signed side v) low high
  where
    by_sign : (side : Side) (v : ℤ) → Signed side v → negsuc 6 ≤ℤ v → v ≤ℤ pos 7 → rank side v ≤ 14
    by_sign side _ none low high = let z = rank-none side in omega arith
    by_sign Lower _ (first n) low high = omega (arith, ints)
    by_sign Lower _ (second n) low high = omega (arith, ints)
    by_sign Upper _ (first n) low high = omega (arith, ints)
    by_sign Upper _ (second n) low high = omega (arith, ints)
