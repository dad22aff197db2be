-- Inertia: what is pending for an output after a new target, over the type of its values (IEEE 1364-2005, 7.14 and 5.3).
use Rattle.std.specs.Prelude.{◌≡◌, ◌≢◌, ℕ, Bool, true, false, ◌&&◌, Option, Some, None, if◌then◌else◌}
use Rattle.std.specs.Ordering.{int_eq}
use Rattle.level_range.specs.Signal.{Signal}
use Rattle.level_range.specs.declared.range.Conduct.{Conduct}
use Rattle.level_range.specs.declared.range.Conduct.TheVariants.{On, Off, Unknown}
use Rattle.delay_rule.specs.declared.inertia.Pending.{Pending}

-- the value is pending
abbrev pub IsPending : {V : Type 0} → Option (Pending V) → V → Type 0
IsPending None v = ⊥
IsPending (Some p) v = p.value ≡ v

-- what is pending after a target: an equal pending value keeps its time; else a target equal to the present value leaves
-- nothing pending; else the target is pending for the tick
pub record IsRetarget {V : Type 0} (present : V) (pending : Option (Pending V)) (target : V) (tick : ℕ) (result : Option (Pending V)) : Type 0 where
  pub keeps : IsPending pending target → result ≡ pending
  pub cancels : ¬ IsPending pending target → target ≡ present → result ≡ None
  pub starts : ¬ IsPending pending target → target ≢ present → result ≡ Some (record { value = target; at = tick })

-- whether the value is pending, by a test of two values
abbrev pub is_pending : {V : Type 0} → (V → V → Bool) → Option (Pending V) → V → Bool
is_pending same None v = false
is_pending same (Some p) v = same p.value v

-- what is pending after a target, by a test of two values
abbrev pub pending_after : {V : Type 0} → (V → V → Bool) → V → Option (Pending V) → V → ℕ → Option (Pending V)
pending_after same present pending target tick =
    if is_pending same pending target then pending
    else if same target present then None
    else Some (record { value = target; at = tick })

-- whether two signals are one
abbrev pub same_signal : Signal → Signal → Bool
same_signal a b = int_eq a.lo b.lo && int_eq a.hi b.hi

-- whether a switch does the same
abbrev pub same_conduct : Conduct → Conduct → Bool
same_conduct On On = true
same_conduct Off Off = true
same_conduct Unknown Unknown = true
same_conduct _ _ = false
