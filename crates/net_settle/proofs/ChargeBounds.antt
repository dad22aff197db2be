-- The two bounds of what is left of a charge.
use Rattle.std.proofs.Common.{◌≡◌, ◌≢◌, ℕ, true, false, refl, arith, inl, inr}
use Rattle.std.specs.Prelude.{ℤ, pos, ◌≤ℤ◌, int_lt, nat_eq}
use Rattle.std.proofs.lemmas.Int.{ints}
use Rattle.std.proofs.lemmas.Bool.{cases_Bool}
use Rattle.level_range.specs.Signal.{Signal, negative_level}
use Rattle.net_settle.specs.Charges.{charge_bound, charge_left}

pub negative_level-order : (n : ℕ) → negative_level n ≤ℤ pos n
negative_level-order n = grind (arith, ints)

pub charge_bound-order : (c : ℕ) (x y : ℤ) → x ≤ℤ y → charge_bound c x ≤ℤ charge_bound c y
charge_bound-order c x y h = elim (cases_Bool (int_lt x (pos 0))) [
  | inl e ↦ elim (cases_Bool (int_lt y (pos 0))) [
    | inl f ↦ rw (e, f) (omega (arith, ints))
    | inr f ↦ rw (e, f) (negative_level-order c)
  ]
  | inr e ↦ elim (cases_Bool (int_lt y (pos 0))) [
    | inl f ↦ absurd (apart x y h e f)
    | inr f ↦ rw (e, f) (omega (arith, ints))
  ]
]
  where
    apart : (x y : ℤ) → x ≤ℤ y → int_lt x (pos 0) ≡ false → int_lt y (pos 0) ≡ true → ⊥
    apart x y h e f = grind (arith, ints)

pub charge_left-some : (c : ℕ) (charge s : Signal) → c ≢ 0 →
    charge_left c charge s ≡ record { lo = charge_bound c s.lo; hi = charge_bound c s.hi }
charge_left-some c charge s some = elim (cases_Bool (nat_eq c 0)) [
  | inl e ↦ absurd (some (grind arith))
  | inr e ↦ rw e refl
]
