-- A time step is what it is said to be.
use Rattle.std.proofs.Common.{◌≡◌, ◌⊎◌, ℕ, zero, suc, ◌-◌, ◌<◌, ◌≤◌, Bool, true, false, cond, refl, ap, inl, inr, arith}
use Rattle.machine.specs.System.{System, further, step, repeat_pass, IsStep}

-- further passes, from a machine that made some
record IsFurther {M : Type 0} (system : System M) (left : ℕ) (m after : M) : Type 0 where
  count : ℕ
  most : count ≤ left
  made : after ≡ repeat_pass system count m
  due : (k : ℕ) → k < count → system.is_due (repeat_pass system k m) ≡ true
  stops : (system.is_due after ≡ false) ⊎ (count ≡ left)

module _ {M : Type 0} (system : System M) where
  first-due : (m : M) (count : ℕ) → system.is_due m ≡ true → ((k : ℕ) → k < count → system.is_due (repeat_pass system k (system.pass m)) ≡ true) →
      (k : ℕ) → k < suc count → system.is_due (repeat_pass system k m) ≡ true
  unfolding repeat_pass
  first-due m count here later zero lt = here
  first-due m count here later (suc k) lt = later k (omega arith)

  further-more : (left : ℕ) (m after : M) → system.is_due m ≡ true → IsFurther system left (system.pass m) after → IsFurther system (suc left) m after
  unfolding repeat_pass
  further-more left m after here is = record {
    count = suc is.count;
    most = (let le = is.most in omega arith);
    made = is.made;
    due = first-due m is.count here is.due;
    stops = stop is.stops;
  }
    where
      stop : (system.is_due after ≡ false) ⊎ (is.count ≡ left) → (system.is_due after ≡ false) ⊎ (suc is.count ≡ suc left)
      stop (inl quiet) = inl quiet
      stop (inr all) = inr (ap suc all)

  none-made : (left : ℕ) (m : M) → (system.is_due m ≡ false) ⊎ (0 ≡ left) → IsFurther system left m m
  unfolding repeat_pass
  none-made left m stop = record { count = 0; most = omega arith; made = refl; due = λ k lt. absurd (omega arith); stops = stop }

  further-is : (left : ℕ) (m : M) → IsFurther system left m (further system left m)
  unfolding further
  further-is zero m = none-made 0 m (inr refl)
  further-is (suc left) m = by_test (system.is_due m) refl (further-is left (system.pass m))
    where
      by_test : (b : Bool) → system.is_due m ≡ b → IsFurther system left (system.pass m) (further system left (system.pass m)) →
          IsFurther system (suc left) m (cond b (further system left (system.pass m)) m)
      by_test true e rest = further-more left m _ e rest
      by_test false e rest = none-made (suc left) m (inl e)

  pub step-is : (limit : ℕ) (m : M) → IsStep system limit m (step system limit m)
  unfolding step
  step-is limit m =
      let is = further-is (limit - 1) (system.pass m) in
      record { count = is.count; most = is.most; made = is.made; due = is.due; stops = is.stops }
