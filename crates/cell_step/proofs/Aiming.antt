-- Aiming again at the same target changes nothing.
use Rattle.std.proofs.Common.{◌≡◌, ℕ, Bool, true, false, refl, ap, sym, ◌∙◌}
use Rattle.std.specs.Prelude.{Option, Some, None}
use Rattle.level_range.specs.declared.range.Conduct.{Conduct}
use Rattle.level_range.specs.declared.range.Conduct.TheVariants.{On, Off, Unknown}
use Rattle.level_range.specs.Signal.{Signal}
use Rattle.delay_rule.specs.declared.inertia.Pending.{Pending}
use Rattle.delay_rule.specs.Inertia.{is_pending, pending_after, same_signal, same_conduct}
use Rattle.delay_rule.proofs.InertiaLemmas.{IsEquality, IsEquality-same_signal}

module _ {V : Type 0} (same : V → V → Bool) (law : IsEquality same) (present : V) (pending : Option (Pending V)) (target : V) (tick later : ℕ) where
  by_tests : (awaits equal : Bool) → is_pending same pending target ≡ awaits → same target present ≡ equal →
      pending_after same present (pending_after same present pending target tick) target later ≡ pending_after same present pending target tick
  by_tests true equal aw eq =
      let e : pending_after same present pending target tick ≡ pending = rw aw refl in
      let f : pending_after same present pending target later ≡ pending = rw aw refl in
      ap (λ p. pending_after same present p target later) e ∙ f ∙ sym e
  by_tests false true aw eq =
      let e : pending_after same present pending target tick ≡ None = rw aw (rw eq refl) in
      let f : pending_after same present None target later ≡ None = rw eq refl in
      ap (λ p. pending_after same present p target later) e ∙ f ∙ sym e
  by_tests false false aw eq =
      let change : Pending V = record { value = target; at = tick } in
      let e : pending_after same present pending target tick ≡ Some change = rw aw (rw eq refl) in
      let itself : same target target ≡ true = (law target target).1 refl in
      let f : pending_after same present (Some change) target later ≡ Some change = rw itself refl in
      ap (λ p. pending_after same present p target later) e ∙ f ∙ sym e

  pub pending_after-again :
      pending_after same present (pending_after same present pending target tick) target later ≡ pending_after same present pending target tick
  pending_after-again = by_tests (is_pending same pending target) (same target present) refl refl

pub same_signal-itself : (s : Signal) → same_signal s s ≡ true
same_signal-itself s = (IsEquality-same_signal s s).1 refl

pub IsEquality-same_conduct : IsEquality same_conduct
IsEquality-same_conduct On On = (λ h. refl, λ e. refl)
IsEquality-same_conduct Off Off = (λ h. refl, λ e. refl)
IsEquality-same_conduct Unknown Unknown = (λ h. refl, λ e. refl)
IsEquality-same_conduct On Off = (λ h. cc, λ e. cc)
IsEquality-same_conduct On Unknown = (λ h. cc, λ e. cc)
IsEquality-same_conduct Off On = (λ h. cc, λ e. cc)
IsEquality-same_conduct Off Unknown = (λ h. cc, λ e. cc)
IsEquality-same_conduct Unknown On = (λ h. cc, λ e. cc)
IsEquality-same_conduct Unknown Off = (λ h. cc, λ e. cc)
