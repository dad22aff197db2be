-- What charges contribute, by bounds, and that what is left of them changes no settled bound.
use Rattle.std.proofs.Common.{◌≡◌, ◌≢◌, ℕ, zero, suc, ◌≤◌, Bool, true, false, cond, refl, ap, sym, ◌∙◌, subst, arith, inl, inr}
use Rattle.std.specs.Prelude.{ℤ, pos, negsuc, ◌≤ℤ◌, ◌⊎◌, int_lt, nat_eq, ◌||◌}
use Rattle.std.specs.Int.{int_min, int_max}
use Rattle.std.proofs.lemmas.Int.{ints, clamps}
use Rattle.std.proofs.lemmas.Bool.{cases_Bool}
use Rattle.level_range.specs.Signal.{Signal, undriven, IsSignal, negative_level}
use Rattle.level_range.specs.declared.range.Kind.{Kind}
use Rattle.level_range.specs.declared.range.Kind.TheVariants.{Plain, And, Or}
use Rattle.level_range.specs.Combine.{lower_of, upper_of, join_of}
use Rattle.level_range.specs.Reduce.{hull_of}
use Rattle.level_range.proofs.Better.{lower, upper}
use Rattle.level_range.proofs.Combination.{joined-signal}
use Rattle.level_range.proofs.Reduction.{undriven-is}
use Rattle.net_settle.specs.declared.side.Side.{Side}
use Rattle.net_settle.specs.declared.side.Side.TheVariants.{Lower, Upper}
use Rattle.net_settle.specs.Bounds.{better, bound_of, favoured_level, is_favoured}
use Rattle.net_settle.specs.Charges.{level, excludes_zero, charge_with_signs, contribution, charge_bound, charge_left, prefer_driven}
use Rattle.net_settle.specs.Conditions.{IsCharge, IsChargeLevel}
use Rattle.net_settle.specs.Progress.{rank}
use Rattle.net_settle.proofs.ChargeBounds.{charge_left-some}
use Rattle.net_settle.proofs.SameSignal.{same_signal}
use Rattle.net_settle.proofs.Again.{IsSign, again_better, charge_bound-sign}

charge-sign : (side : Side) (c : ℕ) (charge : Signal) → IsCharge c charge → IsSign c (bound_of side charge)
charge-sign Lower c charge (inl e) = inl (ap (λ s. s.lo) e)
charge-sign Lower c charge (inr (inl e)) = inr (ap (λ s. s.lo) e)
charge-sign Lower c charge (inr (inr e)) = inl (ap (λ s. s.lo) e)
charge-sign Upper c charge (inl e) = inl (ap (λ s. s.hi) e)
charge-sign Upper c charge (inr (inl e)) = inr (ap (λ s. s.hi) e)
charge-sign Upper c charge (inr (inr e)) = inr (ap (λ s. s.hi) e)

-- what is left of a charge is a charge
pub left-charge : (c : ℕ) (charge s : Signal) → c ≢ 0 → s.lo ≤ℤ s.hi → IsCharge c (charge_left c charge s)
left-charge c charge s some order = subst (IsCharge c) (sym (charge_left-some c charge s some)) (by_signs (cases_Bool (int_lt s.lo (pos 0))) (cases_Bool (int_lt s.hi (pos 0))))
  where
    by_signs : (int_lt s.lo (pos 0) ≡ true) ⊎ (int_lt s.lo (pos 0) ≡ false) → (int_lt s.hi (pos 0) ≡ true) ⊎ (int_lt s.hi (pos 0) ≡ false) →
        IsCharge c (record { lo = charge_bound c s.lo; hi = charge_bound c s.hi })
    by_signs (inl e) (inl f) = rw (e, f) (inl refl)
    by_signs (inl e) (inr f) = rw (e, f) (inr (inr refl))
    by_signs (inr e) (inl f) = absurd (grind (arith, ints))
    by_signs (inr e) (inr f) = rw (e, f) (inr (inl refl))

left-bound : (side : Side) (c : ℕ) (charge s : Signal) → c ≢ 0 → bound_of side (charge_left c charge s) ≡ charge_bound c (bound_of side s)
left-bound Lower c charge s some = ap (λ t. t.lo) (charge_left-some c charge s some)
left-bound Upper c charge s some = ap (λ t. t.hi) (charge_left-some c charge s some)

-- a charge with the levels of the signs that a driven signal has
wide : Bool → Bool → ℕ → Signal → Signal
wide low high c charge =
    let down = cond low (hull_of charge (level (negative_level c))) charge in cond high (hull_of down (level (pos c))) down

min_first : (m : ℕ) (x : ℤ) → IsSign (suc m) x → int_min x (negsuc m) ≡ negsuc m
min_first m x (inl e) = rw e (grind (arith, ints, clamps))
min_first m x (inr e) = rw e (grind (arith, ints, clamps))

min_second : (m : ℕ) (x : ℤ) → IsSign (suc m) x → int_min x (pos (suc m)) ≡ x
min_second m x (inl e) = rw e (grind (arith, ints, clamps))
min_second m x (inr e) = rw e (grind (arith, ints, clamps))

max_first : (m : ℕ) (x : ℤ) → IsSign (suc m) x → int_max x (negsuc m) ≡ x
max_first m x (inl e) = rw e (grind (arith, ints, clamps))
max_first m x (inr e) = rw e (grind (arith, ints, clamps))

max_second : (m : ℕ) (x : ℤ) → IsSign (suc m) x → int_max x (pos (suc m)) ≡ pos (suc m)
max_second m x (inl e) = rw e (grind (arith, ints, clamps))
max_second m x (inr e) = rw e (grind (arith, ints, clamps))

wide-lower : (low high : Bool) (m : ℕ) (charge : Signal) → IsSign (suc m) charge.lo → (wide low high (suc m) charge).lo ≡ cond low (negative_level (suc m)) charge.lo
unfolding wide
wide-lower false false m charge is = refl
wide-lower false true m charge is = min_second m charge.lo is
wide-lower true false m charge is = min_first m charge.lo is
wide-lower true true m charge is = ap (λ x. int_min x (pos (suc m))) (min_first m charge.lo is) ∙ min_second m (negsuc m) (inl refl)

wide-upper : (low high : Bool) (m : ℕ) (charge : Signal) → IsSign (suc m) charge.hi → (wide low high (suc m) charge).hi ≡ cond high (pos (suc m)) charge.hi
unfolding wide
wide-upper false false m charge is = refl
wide-upper false true m charge is = max_second m charge.hi is
wide-upper true false m charge is = max_first m charge.hi is
wide-upper true true m charge is = ap (λ x. int_max x (pos (suc m))) (max_first m charge.hi is) ∙ max_second m charge.hi is

contribution-none : (charge driven : Signal) → contribution 0 charge driven ≡ undriven
contribution-none charge driven = refl

contribution-excluded : (c : ℕ) (charge driven : Signal) → excludes_zero driven ≡ true → contribution c charge driven ≡ undriven
contribution-excluded c charge driven e = by_test (nat_eq c 0) e
  where
    by_test : (b : Bool) → excludes_zero driven ≡ true → cond b undriven (cond (excludes_zero driven) undriven (charge_with_signs c charge driven)) ≡ undriven
    by_test true e = refl
    by_test false e = rw e refl

contribution-some : (m : ℕ) (charge driven : Signal) → excludes_zero driven ≡ false →
    contribution (suc m) charge driven ≡ wide (int_lt driven.lo (pos 0)) (int_lt (pos 0) driven.hi) (suc m) charge
unfolding wide
contribution-some m charge driven e =
    let z : nat_eq (suc m) 0 ≡ false = grind arith in
    ap (λ b. cond b undriven (cond (excludes_zero driven) undriven (charge_with_signs (suc m) charge driven))) z
    ∙ ap (λ b. cond b undriven (charge_with_signs (suc m) charge driven)) e

-- the bounds of what is contributed
bound-contribution : (side : Side) (m : ℕ) (charge driven : Signal) → excludes_zero driven ≡ false → IsCharge (suc m) charge →
    bound_of side (contribution (suc m) charge driven) ≡ cond (is_favoured side (bound_of side driven)) (favoured_level side (suc m)) (bound_of side charge)
bound-contribution Lower m charge driven e is =
    ap (λ s. s.lo) (contribution-some m charge driven e) ∙ wide-lower _ _ m charge (charge-sign Lower (suc m) charge is)
bound-contribution Upper m charge driven e is =
    ap (λ s. s.hi) (contribution-some m charge driven e) ∙ wide-upper _ _ m charge (charge-sign Upper (suc m) charge is)

-- the bound of two signals joined
combine : Side → Kind → ℤ → ℤ → ℤ
combine Lower kind x y = lower_of kind x y
combine Upper kind x y = upper_of kind x y

bound-joined : (side : Side) (kind : Kind) (a b : Signal) → bound_of side (join_of kind a b) ≡ combine side kind (bound_of side a) (bound_of side b)
unfolding combine
bound-joined Lower kind a b = refl
bound-joined Upper kind a b = refl

combine-plain : (side : Side) (x y : ℤ) → combine side Plain x y ≡ better side x y
unfolding combine
combine-plain Lower x y = refl
combine-plain Upper x y = refl

combine-none : (side : Side) (kind : Kind) (y : ℤ) → combine side kind (pos 0) y ≡ y
unfolding combine
combine-none Lower Plain y = lower.comm (pos 0) y ∙ lower.zero y
combine-none Lower And y = lower.comm (pos 0) y ∙ lower.zero y
combine-none Lower Or y = upper.comm (pos 0) y ∙ upper.zero y
combine-none Upper Plain y = upper.comm (pos 0) y ∙ upper.zero y
combine-none Upper And y = lower.comm (pos 0) y ∙ lower.zero y
combine-none Upper Or y = upper.comm (pos 0) y ∙ upper.zero y

-- a bound that isn't the favoured one, of a signal that doesn't exclude 0, is 0
bound_zero : (side : Side) (s : Signal) → excludes_zero s ≡ false → is_favoured side (bound_of side s) ≡ false → bound_of side s ≡ pos 0
bound_zero Lower s e f = is_zero s.lo s.hi e f
  where
    is_zero : (x y : ℤ) → (int_lt y (pos 0) || int_lt (pos 0) x) ≡ false → int_lt x (pos 0) ≡ false → x ≡ pos 0
    is_zero x y e f = grind (arith, ints)
bound_zero Upper s e f = is_zero s.lo s.hi e f
  where
    is_zero : (x y : ℤ) → (int_lt y (pos 0) || int_lt (pos 0) x) ≡ false → int_lt (pos 0) y ≡ false → y ≡ pos 0
    is_zero x y e f = grind (arith, ints)

-- the net is plain, or alone, so that its signals are those that it is given
abbrev pub PlainOrAlone : Kind → Signal → Signal → Signal → Signal → Type 0
PlainOrAlone kind own driven charged second = (kind ≡ Plain) ⊎ ((driven ≡ own) × (second ≡ charged))

-- what a net's charge contributes next
abbrev pub next_contribution : ℕ → Signal → Signal → Signal → Signal
next_contribution c charge driven second = contribution c (charge_left c charge (prefer_driven driven second)) driven

-- what the next contribution makes of a net's own bound
pub record Keeps (side : Side) (kind : Kind) (c : ℕ) (own charge driven second : Signal) : Type 0 where
  pub weaker :
      rank side (bound_of side (join_of kind own (next_contribution c charge driven second))) ≤ rank side (bound_of side second)
  pub kept :
      bound_of side second ≡ bound_of side (join_of kind own (contribution c charge driven))
      → bound_of side second ≡ bound_of side (join_of kind own (next_contribution c charge driven second))

module _ (side : Side) (kind : Kind) (own charge driven second : Signal) where
  abbrev pub Settled : ℕ → Type 0
  Settled c = rank side (bound_of side (join_of kind own (contribution c charge driven))) ≤ rank side (bound_of side second)

  keeps-same : (c : ℕ) → Settled c →
      bound_of side (join_of kind own (contribution c charge driven)) ≡ bound_of side (join_of kind own (next_contribution c charge driven second)) →
      Keeps side kind c own charge driven second
  keeps-same c le e = record {
    weaker = subst (λ (v : ℤ). rank side v ≤ rank side (bound_of side second)) e le;
    kept = λ f. f ∙ e;
  }

  keeps-some : (m : ℕ) → Settled (suc m) → excludes_zero driven ≡ false → is_favoured side (bound_of side driven) ≡ false →
      IsCharge (suc m) charge → second.lo ≤ℤ second.hi → PlainOrAlone kind own driven (join_of kind own (contribution (suc m) charge driven)) second →
      Keeps side kind (suc m) own charge driven second
  keeps-some m le within sign is order how =
      let some : suc m ≢ 0 = λ (z : suc m ≡ 0). absurd (omega arith) in
      let same : prefer_driven driven second ≡ second = ap (λ b. cond b driven second) within in
      let k : bound_of side (contribution (suc m) charge driven) ≡ bound_of side charge =
      bound-contribution side m charge driven within is ∙ ap (λ b. cond b (favoured_level side (suc m)) (bound_of side charge)) sign in
      let left = left-charge (suc m) charge second some order in
      let next_is : bound_of side (next_contribution (suc m) charge driven second) ≡ charge_bound (suc m) (bound_of side second) =
      ap (λ s. bound_of side (contribution (suc m) (charge_left (suc m) charge s) driven)) same
      ∙ bound-contribution side m (charge_left (suc m) charge second) driven within left
      ∙ ap (λ b. cond b (favoured_level side (suc m)) (bound_of side (charge_left (suc m) charge second))) sign
      ∙ left-bound side (suc m) charge second some in
      elim how [
        | inl plain ↦
            let a : bound_of side (join_of kind own (contribution (suc m) charge driven)) ≡ better side (bound_of side own) (bound_of side charge) =
            bound-joined side kind own _ ∙ ap (λ q. combine side q (bound_of side own) (bound_of side (contribution (suc m) charge driven))) plain
            ∙ combine-plain side _ _ ∙ ap (better side (bound_of side own)) k in
            let b : bound_of side (join_of kind own (next_contribution (suc m) charge driven second)) ≡ better side (bound_of side own) (charge_bound (suc m) (bound_of side second)) =
            bound-joined side kind own _ ∙ ap (λ q. combine side q (bound_of side own) (bound_of side (next_contribution (suc m) charge driven second))) plain
            ∙ combine-plain side _ _ ∙ ap (better side (bound_of side own)) next_is in
            let le2 = subst (λ (v : ℤ). rank side v ≤ rank side (bound_of side second)) a le in
            let both = again_better side (suc m) (bound_of side own) (bound_of side charge) (bound_of side second) (omega arith) (charge-sign side (suc m) charge is) le2 in
            record {
              weaker = subst (λ (v : ℤ). rank side v ≤ rank side (bound_of side second)) (sym b) both.0;
              kept = λ f. both.1 (f ∙ a) ∙ sym b;
            }
        | inr (driven_is, second_is) ↦
            let zero : bound_of side own ≡ pos 0 = ap (bound_of side) (sym driven_is) ∙ bound_zero side driven within sign in
            let a : bound_of side (join_of kind own (contribution (suc m) charge driven)) ≡ bound_of side charge =
            bound-joined side kind own _ ∙ ap (λ x. combine side kind x (bound_of side (contribution (suc m) charge driven))) zero
            ∙ combine-none side kind _ ∙ k in
            let b : bound_of side (join_of kind own (next_contribution (suc m) charge driven second)) ≡ bound_of side charge =
            bound-joined side kind own _ ∙ ap (λ x. combine side kind x (bound_of side (next_contribution (suc m) charge driven second))) zero
            ∙ combine-none side kind _ ∙ next_is
            ∙ ap (charge_bound (suc m)) (ap (bound_of side) second_is ∙ a)
            ∙ charge_bound-sign (suc m) (bound_of side charge) (omega arith) (charge-sign side (suc m) charge is) in
            keeps-same (suc m) le (a ∙ sym b)
      ]

  -- no bound changes for the better, and none that is a net's own one changes
  pub keeps : (c : ℕ) → Settled c → (c ≢ 0 → IsCharge c charge) → second.lo ≤ℤ second.hi →
      PlainOrAlone kind own driven (join_of kind own (contribution c charge driven)) second → Keeps side kind c own charge driven second
  keeps zero le is order how = keeps-same zero le refl
  keeps (suc m) le is order how = elim (cases_Bool (excludes_zero driven)) [
    | inl e ↦
        keeps-same (suc m) le (ap (λ s. bound_of side (join_of kind own s))
        (contribution-excluded (suc m) charge driven e ∙ sym (contribution-excluded (suc m) (charge_left (suc m) charge (prefer_driven driven second)) driven e)))
    | inr e ↦ elim (cases_Bool (is_favoured side (bound_of side driven))) [
      | inl f ↦
          let some : suc m ≢ 0 = λ (z : suc m ≡ 0). absurd (omega arith) in
          let same : prefer_driven driven second ≡ second = ap (λ b. cond b driven second) e in
          let left = subst (λ s. IsCharge (suc m) (charge_left (suc m) charge s)) (sym same) (left-charge (suc m) charge second some order) in
          let k = bound-contribution side m charge driven e (is some) ∙ ap (λ b. cond b (favoured_level side (suc m)) (bound_of side charge)) f in
          let n = bound-contribution side m (charge_left (suc m) charge (prefer_driven driven second)) driven e left
          ∙ ap (λ b. cond b (favoured_level side (suc m)) (bound_of side (charge_left (suc m) charge (prefer_driven driven second)))) f in
          keeps-same (suc m) le
          (bound-joined side kind own _ ∙ ap (combine side kind (bound_of side own)) (k ∙ sym n) ∙ sym (bound-joined side kind own _))
      | inr f ↦ keeps-some m le e f (is (λ (z : suc m ≡ 0). absurd (omega arith))) order how
    ]
  ]

-- own signals with contributions are signals
contribution-signal : (c : ℕ) (charge driven : Signal) → IsChargeLevel c → (c ≢ 0 → IsCharge c charge) → IsSignal (contribution c charge driven)
contribution-signal zero charge driven level is = undriven-is
contribution-signal (suc m) charge driven level is = elim (cases_Bool (excludes_zero driven)) [
  | inl e ↦ subst IsSignal (sym (contribution-excluded (suc m) charge driven e)) undriven-is
  | inr e ↦ subst IsSignal (sym (contribution-some m charge driven e))
      (wide-signal (int_lt driven.lo (pos 0)) (int_lt (pos 0) driven.hi) m charge (small (suc m) level) (is (λ (z : suc m ≡ 0). absurd (omega arith))))
]
  where
    small : (c : ℕ) → IsChargeLevel c → c ≤ 7
    small c (inl e) = omega arith
    small c (inr (inl e)) = omega arith
    small c (inr (inr (inl e))) = omega arith
    small c (inr (inr (inr e))) = omega arith

    by_bounds : (low high : Bool) (m : ℕ) (x y : ℤ) → suc m ≤ 7 → IsSign (suc m) x → IsSign (suc m) y → x ≤ℤ y →
        IsSignal (record { lo = cond low (negative_level (suc m)) x; hi = cond high (pos (suc m)) y })
    by_bounds low high m x y le sx sy order = record {
      low = lows low sx;
      order = orders low high sx sy;
      high = highs high sy;
    }
      where
        lows : (low : Bool) → IsSign (suc m) x → negsuc 6 ≤ℤ cond low (negative_level (suc m)) x
        lows true sx = omega (arith, ints)
        lows false (inl e) = rw e (omega (arith, ints))
        lows false (inr e) = rw e (omega (arith, ints))

        highs : (high : Bool) → IsSign (suc m) y → cond high (pos (suc m)) y ≤ℤ pos 7
        highs true sy = omega (arith, ints)
        highs false (inl e) = rw e (omega (arith, ints))
        highs false (inr e) = rw e (omega (arith, ints))

        orders : (low high : Bool) → IsSign (suc m) x → IsSign (suc m) y → cond low (negative_level (suc m)) x ≤ℤ cond high (pos (suc m)) y
        orders true true sx sy = omega (arith, ints)
        orders true false sx (inl e) = rw e (omega (arith, ints))
        orders true false sx (inr e) = rw e (omega (arith, ints))
        orders false true (inl e) sy = rw e (omega (arith, ints))
        orders false true (inr e) sy = rw e (omega (arith, ints))
        orders false false sx sy = order

    charge-order : (m : ℕ) (charge : Signal) → IsCharge (suc m) charge → charge.lo ≤ℤ charge.hi
    charge-order m charge (inl e) = rw e (omega (arith, ints))
    charge-order m charge (inr (inl e)) = rw e (omega (arith, ints))
    charge-order m charge (inr (inr e)) = rw e (omega (arith, ints))

    wide-signal : (low high : Bool) (m : ℕ) (charge : Signal) → suc m ≤ 7 → IsCharge (suc m) charge → IsSignal (wide low high (suc m) charge)
    wide-signal low high m charge le is =
        let sl = charge-sign Lower (suc m) charge is in
        let sh = charge-sign Upper (suc m) charge is in
        subst IsSignal (sym (same_signal (wide low high (suc m) charge) _ _ (wide-lower low high m charge sl) (wide-upper low high m charge sh)))
        (by_bounds low high m charge.lo charge.hi le sl sh (charge-order m charge is))

pub charged-signal : (kind : Kind) (c : ℕ) (own charge driven : Signal) → IsSignal own → IsChargeLevel c → (c ≢ 0 → IsCharge c charge) →
    IsSignal (join_of kind own (contribution c charge driven))
charged-signal kind c own charge driven is level charged =
    joined-signal kind own (contribution c charge driven) is (contribution-signal c charge driven level charged)
