-- Inertia by a test of two values is inertia by equality.
use Rattle.std.proofs.Common.{◌≡◌, ℕ, Bool, true, false, refl, ap}
use Rattle.std.specs.Prelude.{ℤ, Option, Some, None, ◌↔◌, IsNone, if◌then◌else◌}
use Rattle.std.specs.Bool.{Decides}
use Rattle.std.specs.Ordering.{int_eq}
use Rattle.std.proofs.lemmas.Bool.Decides.{Decides-int_eq, Decides-and, Decides-like}
use Rattle.level_range.specs.Signal.{Signal}
use Rattle.delay_rule.specs.declared.inertia.Pending.{Pending}
use Rattle.delay_rule.specs.Inertia.{IsPending, IsRetarget, is_pending, pending_after, same_signal}

-- the test answers whether two values are equal
abbrev pub IsEquality : {V : Type 0} → (V → V → Bool) → Type 0
IsEquality {V = V} same = (a b : V) → Decides (same a b) (a ≡ b)

Decides-is_pending : {V : Type 0} (same : V → V → Bool) → IsEquality same → (pending : Option (Pending V)) (v : V) →
    Decides (is_pending same pending v) (IsPending pending v)
Decides-is_pending same law None v = (λ h. cc, λ h. absurd h)
Decides-is_pending same law (Some p) v = law p.value v

not_pending : {V : Type 0} (pending : Option (Pending V)) (v : V) → IsNone pending → IsPending pending v → ⊥
not_pending None v h p = p
not_pending (Some q) v h p = cc

-- what is pending, by the answers of the two tests
module _ {V : Type 0} (present : V) (pending : Option (Pending V)) (target : V) (tick : ℕ) where
  retarget_cases : (awaited equal : Bool) → Decides awaited (IsPending pending target) → Decides equal (target ≡ present)
      → IsRetarget present pending target tick (if awaited then pending else if equal then None else Some (record { value = target; at = tick }))
  retarget_cases true equal aw eq = record { keeps = λ h. refl; cancels = λ no _. absurd (no (aw.0 refl)); starts = λ no _. absurd (no (aw.0 refl)) }
  retarget_cases false true aw eq = record { keeps = λ h. absurd (let e : false ≡ true = aw.1 h in cc); cancels = λ _ _. refl; starts = λ _ ne. absurd (ne (eq.0 refl)) }
  retarget_cases false false aw eq = record { keeps = λ h. absurd (let e : false ≡ true = aw.1 h in cc); cancels = λ _ h. absurd (let e : false ≡ true = eq.1 h in cc); starts = λ _ _. refl }

  none_cases : (awaited equal : Bool) → Decides awaited (IsPending pending target) → Decides equal (target ≡ present)
      → IsNone (if awaited then pending else if equal then None else Some (record { value = target; at = tick }))
      → (target ≡ present) × ¬ IsPending pending target
  none_cases true equal aw eq h = absurd (not_pending pending target h (aw.0 refl))
  none_cases false true aw eq h = (eq.0 refl, λ w. let e : false ≡ true = aw.1 w in cc)
  none_cases false false aw eq h = absurd (let e : true ≡ false = h in cc)

  pub IsRetarget-pending_after : (same : V → V → Bool) → IsEquality same → (result : Option (Pending V))
      → result ≡ pending_after same present pending target tick → IsRetarget present pending target tick result
  IsRetarget-pending_after same law result e =
      rw e (retarget_cases (is_pending same pending target) (same target present) (Decides-is_pending same law pending target) (law target present))

  -- None comes exactly where the target is the present value and isn't pending
  pub IsNone-pending_after : (same : V → V → Bool) → IsEquality same → (result : Option (Pending V))
      → result ≡ pending_after same present pending target tick → IsNone result ↔ ((target ≡ present) × ¬ IsPending pending target)
  IsNone-pending_after same law result e = (
    rw e (none_cases (is_pending same pending target) (same target present) (Decides-is_pending same law pending target) (law target present)),
    λ w. rw ((IsRetarget-pending_after same law result e).cancels w.1 w.0) refl,
  )

signal-of : (l h m n : ℤ) → l ≡ m → h ≡ n → (let s : Signal = record { lo = l; hi = h } in s) ≡ (let s : Signal = record { lo = m; hi = n } in s)
signal-of l h m n e f = cc

signal_parts : (a b : Signal) → (a.lo ≡ b.lo) × (a.hi ≡ b.hi) → a ≡ b
signal_parts a b e = signal-of a.lo a.hi b.lo b.hi e.0 e.1

pub IsEquality-same_signal : IsEquality same_signal
IsEquality-same_signal a b =
    Decides-like (same_signal a b) (signal_parts a b) (λ e. (ap (λ s. s.lo) e, ap (λ s. s.hi) e))
    (Decides-and (int_eq a.lo b.lo) (int_eq a.hi b.hi) (Decides-int_eq a.lo b.lo) (Decides-int_eq a.hi b.hi))
