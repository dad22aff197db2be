-- Reduction and hull by bounds.
use Rattle.std.specs.Prelude.{◌≡◌, ◌≤◌, ◌<◌, ℕ, zero, suc, ◌+◌, ◌-◌, Bool, true, false, ℤ, pos, negsuc, ◌≤ℤ◌, unsigned_abs, int_lt, refl}
use Rattle.std.proofs.Common.{arith, add-zero}
use Rattle.std.proofs.lemmas.Int.{ints, clamps}
use Rattle.level_range.specs.Signal.{Signal, negative_level, reads, undriven, IsSignal}
use Rattle.level_range.specs.Levels.{Includes}
use Rattle.level_range.proofs.Combination.{self, trans}
use Rattle.level_range.specs.Combine.{better_low, better_high}
use Rattle.level_range.specs.Reduce.{reduced_strength, reduced_level, reduction_of, IsReduction, IsHull, hull_of}

-- a greater strength is not less behind a switch
reduced_strength-next : (resistive : Bool) (n : ℕ) → reduced_strength resistive n ≤ reduced_strength resistive (suc n)
reduced_strength-next true n = grind arith
reduced_strength-next false n = grind arith

reduced_strength-monotone : (resistive : Bool) (m k : ℕ) → reduced_strength resistive m ≤ reduced_strength resistive (m + k)
reduced_strength-monotone resistive m zero = rw add-zero (omega arith)
reduced_strength-monotone resistive m (suc k) =
    let e : m + suc k ≡ suc (m + k) = omega arith in
    let h = reduced_strength-monotone resistive m k in
    let n = reduced_strength-next resistive (m + k) in
    rw e (omega arith)

reduced_strength-le : (resistive : Bool) (m n : ℕ) → m ≤ n → reduced_strength resistive m ≤ reduced_strength resistive n
reduced_strength-le resistive m n h =
    let e : m + (n - m) ≡ n = omega arith in
    rw e at (reduced_strength-monotone resistive m (n - m))

negative_level-le-pos : (m n : ℕ) → negative_level m ≤ℤ pos n
negative_level-le-pos m n = grind (arith, ints)

negative_level-le-negative_level : (m n : ℕ) → m ≤ n → negative_level n ≤ℤ negative_level m
negative_level-le-negative_level m n h = grind (arith, ints)

-- no strength is greater behind a switch, and none is lost
reduced_strength-weaker : (resistive : Bool) (n : ℕ) → reduced_strength resistive n ≤ n
reduced_strength-weaker true n = grind arith
reduced_strength-weaker false n = grind arith

reduced_strength-positive : (resistive : Bool) (n : ℕ) → 0 < n → 0 < reduced_strength resistive n
reduced_strength-positive true n h = grind arith
reduced_strength-positive false n h = grind arith

-- a higher level is not lower behind a switch
pub reduced_level-monotone : (resistive : Bool) (u v : ℤ) → u ≤ℤ v → reduced_level resistive u ≤ℤ reduced_level resistive v
unfolding reduced_level
reduced_level-monotone resistive (pos m) (pos n) h =
    let le = reduced_strength-le resistive m n (omega (arith, ints)) in omega (arith, ints)
reduced_level-monotone resistive (pos m) (negsuc n) h = absurd (omega (arith, ints))
reduced_level-monotone resistive (negsuc m) (pos n) h = negative_level-le-pos (reduced_strength resistive (suc m)) (reduced_strength resistive n)
reduced_level-monotone resistive (negsuc m) (negsuc n) h =
    negative_level-le-negative_level _ _ (reduced_strength-le resistive (suc n) (suc m) (omega (arith, ints)))

pub reduced_level-low : (resistive : Bool) (v : ℤ) → negsuc 6 ≤ℤ v → negsuc 6 ≤ℤ reduced_level resistive v
unfolding reduced_level
reduced_level-low resistive v h = trans _ _ _ (least resistive) (reduced_level-monotone resistive (negsuc 6) v h)
  where
    least : (resistive : Bool) → negsuc 6 ≤ℤ reduced_level resistive (negsuc 6)
    least true = omega (arith, ints)
    least false = omega (arith, ints)

pub reduced_level-high : (resistive : Bool) (v : ℤ) → v ≤ℤ pos 7 → reduced_level resistive v ≤ℤ pos 7
unfolding reduced_level
reduced_level-high resistive v h = trans _ _ _ (reduced_level-monotone resistive v (pos 7) h) (greatest resistive)
  where
    greatest : (resistive : Bool) → reduced_level resistive (pos 7) ≤ℤ pos 7
    greatest true = omega (arith, ints)
    greatest false = omega (arith, ints)

-- no level is stronger behind a switch
pub reduced_level-weaker : (resistive : Bool) (v : ℤ) → unsigned_abs (reduced_level resistive v) ≤ unsigned_abs v
unfolding reduced_level
reduced_level-weaker true v = grind (arith, ints)
reduced_level-weaker false v = grind (arith, ints)

-- a level behind a switch is no better bound than the level itself
pub better_low-reduced : (resistive : Bool) (v : ℤ) → better_low v (reduced_level resistive v) ≡ v
unfolding better_low reduced_level
better_low-reduced resistive (pos n) = let h = reduced_strength-weaker resistive n in grind (arith, ints)
better_low-reduced resistive (negsuc n) = let h = reduced_strength-weaker resistive (suc n) in grind (arith, ints)

pub better_high-reduced : (resistive : Bool) (v : ℤ) → better_high v (reduced_level resistive v) ≡ v
unfolding better_high reduced_level
better_high-reduced resistive (pos n) = let h = reduced_strength-weaker resistive n in grind (arith, ints)
better_high-reduced resistive (negsuc n) = let h = reduced_strength-weaker resistive (suc n) in grind (arith, ints)

-- a level keeps its sign behind a switch
reduced_level-below : (resistive : Bool) (v : ℤ) → int_lt (reduced_level resistive v) (pos 0) ≡ int_lt v (pos 0)
unfolding reduced_level
reduced_level-below true v = grind (arith, ints)
reduced_level-below false v = grind (arith, ints)

reduced_level-above : (resistive : Bool) (v : ℤ) → int_lt (pos 0) (reduced_level resistive v) ≡ int_lt (pos 0) v
unfolding reduced_level
reduced_level-above true v = grind (arith, ints)
reduced_level-above false v = grind (arith, ints)

pub reduced-reads : (resistive : Bool) (s : Signal) → reads (reduction_of resistive s) ≡ reads s
reduced-reads resistive s = simp (reduced_level-below, reduced_level-above)

pub reduced-is : (resistive : Bool) (s : Signal) → IsSignal s → IsReduction resistive s (reduction_of resistive s)
unfolding IsReduction
reduced-is resistive s is v = (
  λ h. (
    (_, (s.lo, record { from_lo = self _; to_hi = is.order }, refl), h.from_lo),
    (_, (s.hi, record { from_lo = is.order; to_hi = self _ }, refl), h.to_hi),
  ),
  λ f. record {
    from_lo = trans _ _ _ (rw (← f.0.1.2) at (reduced_level-monotone resistive s.lo f.0.1.0 f.0.1.1.from_lo)) f.0.2;
    to_hi = trans _ _ _ f.1.2 (rw (← f.1.1.2) at (reduced_level-monotone resistive f.1.1.0 s.hi f.1.1.1.to_hi));
  },
)

pub hull_of-is : (a b : Signal) → IsSignal a → IsSignal b → IsHull a b (hull_of a b)
hull_of-is a b is_a is_b = record {
  first = λ v h. record { from_lo = omega (arith, ints, clamps); to_hi = omega (arith, ints, clamps) };
  second = λ v h. record { from_lo = omega (arith, ints, clamps); to_hi = omega (arith, ints, clamps) };
  least = λ other with_a with_b v h.
      let a_lo = with_a a.lo (record { from_lo = self _; to_hi = is_a.order }) in
      let a_hi = with_a a.hi (record { from_lo = is_a.order; to_hi = self _ }) in
      let b_lo = with_b b.lo (record { from_lo = self _; to_hi = is_b.order }) in
      let b_hi = with_b b.hi (record { from_lo = is_b.order; to_hi = self _ }) in
      record { from_lo = omega (arith, ints, clamps); to_hi = omega (arith, ints, clamps) };
}

-- what is contained stays contained behind a switch, and beside z
pub reduced-monotone : (resistive : Bool) (a b : Signal) → IsSignal b → Includes a b → Includes (reduction_of resistive a) (reduction_of resistive b)
reduced-monotone resistive a b is_b within v h =
    let lo = within b.lo (record { from_lo = self _; to_hi = is_b.order }) in
    let hi = within b.hi (record { from_lo = is_b.order; to_hi = self _ }) in
    record {
      from_lo = trans _ _ _ (reduced_level-monotone resistive a.lo b.lo lo.from_lo) h.from_lo;
      to_hi = trans _ _ _ h.to_hi (reduced_level-monotone resistive b.hi a.hi hi.to_hi);
    }

pub hull_of-monotone : (a b : Signal) → IsSignal b → Includes a b → Includes (hull_of a undriven) (hull_of b undriven)
hull_of-monotone a b is_b within v h =
    let lo = within b.lo (record { from_lo = self _; to_hi = is_b.order }) in
    let hi = within b.hi (record { from_lo = is_b.order; to_hi = self _ }) in
    record { from_lo = omega (arith, ints, clamps); to_hi = omega (arith, ints, clamps) }

pub undriven-is : IsSignal undriven
undriven-is = record { low = omega (arith, ints); order = omega (arith, ints); high = omega (arith, ints) }
