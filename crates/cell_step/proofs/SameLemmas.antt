-- Whether two states are the same, part by part.
use Rattle.std.proofs.Common.{◌≡◌, ℕ, Bool, true, false, List, refl, ap, ◌∙◌, rules}
use Rattle.std.specs.Prelude.{Option, Some, None, ◌&&◌, nat_eq}
use Rattle.std.specs.Cmp.Lexicographic.{pointwise, pointwise_decides}
use Rattle.std.proofs.lemmas.Bool.Decides.{Decides-and, Decides-like, Decides-eqb}
use Rattle.level_range.specs.Signal.{Signal}
use Rattle.level_range.specs.declared.range.Conduct.{Conduct}
use Rattle.level_range.specs.declared.range.Logic.{Logic}
use Rattle.level_range.specs.contracts.range.ConductPartialEq.TheImpl as conduct
use Rattle.level_range.specs.contracts.range.LogicPartialEq.TheImpl as logic
use Rattle.delay_rule.specs.declared.inertia.Pending.{Pending}
use Rattle.delay_rule.specs.Inertia.{same_signal}
use Rattle.delay_rule.proofs.InertiaLemmas.{IsEquality, IsEquality-same_signal}
use Rattle.cell_step.specs.contracts.states.TimerPartialEq.TheImpl as timer
use Rattle.cell_step.specs.declared.states.ElementState.{ElementState}
use Rattle.cell_step.specs.declared.states.NetState.{NetState}
use Rattle.cell_step.specs.declared.states.Timer.{Timer}

-- what the derived tests of two values answer
abbrev pub same_conduct : Conduct → Conduct → Bool
same_conduct a b = conduct.eq-value.it a b

abbrev pub same_value : Logic → Logic → Bool
same_value a b = logic.eq-value.it a b

IsEquality-same_conduct : IsEquality same_conduct
IsEquality-same_conduct a b = search rules

IsEquality-same_value : IsEquality same_value
IsEquality-same_value a b = search rules

abbrev pub same_pending : {V : Type 0} → (V → V → Bool) → Option (Pending V) → Option (Pending V) → Bool
same_pending same None None = true
same_pending same None (Some y) = false
same_pending same (Some x) None = false
same_pending same (Some x) (Some y) = same x.value y.value && nat_eq x.at y.at

change : {V : Type 0} → V → ℕ → Pending V
change value at = record { value = value; at = at }

same-change : {V : Type 0} (x y : Pending V) → (x.value ≡ y.value) × (x.at ≡ y.at) → x ≡ y
unfolding change
same-change x y e = ap (λ v. change v x.at) e.0 ∙ ap (change y.value) e.1

change-of : {V : Type 0} (x y : Pending V) → Some x ≡ Some y → x ≡ y
change-of x y e = cc

IsEquality-same_pending : {V : Type 0} (same : V → V → Bool) → IsEquality same → IsEquality (same_pending same)
IsEquality-same_pending same law None None = (λ e. refl, λ e. refl)
IsEquality-same_pending same law None (Some y) = (λ e. absurd (let f : false ≡ true = e in cc), λ e. absurd (cc))
IsEquality-same_pending same law (Some x) None = (λ e. absurd (let f : false ≡ true = e in cc), λ e. absurd (cc))
IsEquality-same_pending same law (Some x) (Some y) =
    Decides-like (same x.value y.value && nat_eq x.at y.at) (λ e. ap Some (same-change x y e))
    (λ e. let f = change-of x y e in (ap (λ (p : Pending _). p.value) f, ap (λ (p : Pending _). p.at) f))
    (Decides-and (same x.value y.value) (nat_eq x.at y.at) (law x.value y.value) (Decides-eqb x.at y.at))

abbrev pub same_element : ElementState → ElementState → Bool
same_element a b =
    same_signal a.out b.out && (same_conduct a.on b.on && (same_pending same_signal a.due b.due
    && (same_pending same_conduct a.switch_due b.switch_due && (same_value a.state b.state && pointwise same_value a.seen b.seen))))

element : Signal → Conduct → Option (Pending Signal) → Option (Pending Conduct) → Logic → List Logic → ElementState
element out on due switch_due state seen =
    record { out = out; on = on; due = due; switch_due = switch_due; state = state; seen = seen }

same-parts : (a b : ElementState) →
    (a.out ≡ b.out) × ((a.on ≡ b.on) × ((a.due ≡ b.due) × ((a.switch_due ≡ b.switch_due) × ((a.state ≡ b.state) × (a.seen ≡ b.seen))))) → a ≡ b
unfolding element
same-parts a b e =
    ap (λ out. element out a.on a.due a.switch_due a.state a.seen) e.0
    ∙ ap (λ on. element b.out on a.due a.switch_due a.state a.seen) e.1.0
    ∙ ap (λ due. element b.out b.on due a.switch_due a.state a.seen) e.1.1.0
    ∙ ap (λ due. element b.out b.on b.due due a.state a.seen) e.1.1.1.0
    ∙ ap (λ state. element b.out b.on b.due b.switch_due state a.seen) e.1.1.1.1.0
    ∙ ap (element b.out b.on b.due b.switch_due b.state) e.1.1.1.1.1

pub IsEquality-same_element : IsEquality same_element
IsEquality-same_element a b =
    Decides-like (same_element a b) (same-parts a b)
    (λ e. (ap (λ s. s.out) e, (ap (λ s. s.on) e, (ap (λ s. s.due) e, (ap (λ s. s.switch_due) e, (ap (λ s. s.state) e, ap (λ s. s.seen) e))))))
    (Decides-and _ _ (IsEquality-same_signal a.out b.out)
    (Decides-and _ _ (IsEquality-same_conduct a.on b.on)
    (Decides-and _ _ (IsEquality-same_pending same_signal IsEquality-same_signal a.due b.due)
    (Decides-and _ _ (IsEquality-same_pending same_conduct IsEquality-same_conduct a.switch_due b.switch_due)
    (Decides-and _ _ (IsEquality-same_value a.state b.state) (pointwise_decides IsEquality-same_value a.seen b.seen))))))

abbrev pub same_timer : Timer → Timer → Bool
same_timer a b = timer.eq-value.it a b

abbrev pub same_net : NetState → NetState → Bool
same_net a b =
    same_signal a.settled b.settled && (same_signal a.seen b.seen && (same_pending same_signal a.due b.due
    && (same_signal a.charge b.charge && same_timer a.timer b.timer)))

IsEquality-same_timer : IsEquality same_timer
IsEquality-same_timer a b = search rules

net : Signal → Signal → Option (Pending Signal) → Signal → Timer → NetState
net settled seen due charge timer = record { settled = settled; seen = seen; due = due; charge = charge; timer = timer }

same-net-parts : (a b : NetState) →
    (a.settled ≡ b.settled) × ((a.seen ≡ b.seen) × ((a.due ≡ b.due) × ((a.charge ≡ b.charge) × (a.timer ≡ b.timer)))) → a ≡ b
unfolding net
same-net-parts a b e =
    ap (λ settled. net settled a.seen a.due a.charge a.timer) e.0
    ∙ ap (λ seen. net b.settled seen a.due a.charge a.timer) e.1.0
    ∙ ap (λ due. net b.settled b.seen due a.charge a.timer) e.1.1.0
    ∙ ap (λ charge. net b.settled b.seen b.due charge a.timer) e.1.1.1.0
    ∙ ap (net b.settled b.seen b.due b.charge) e.1.1.1.1

pub IsEquality-same_net : IsEquality same_net
IsEquality-same_net a b =
    Decides-like (same_net a b) (same-net-parts a b)
    (λ e. (ap (λ s. s.settled) e, (ap (λ s. s.seen) e, (ap (λ s. s.due) e, (ap (λ s. s.charge) e, ap (λ s. s.timer) e)))))
    (Decides-and _ _ (IsEquality-same_signal a.settled b.settled)
    (Decides-and _ _ (IsEquality-same_signal a.seen b.seen)
    (Decides-and _ _ (IsEquality-same_pending same_signal IsEquality-same_signal a.due b.due)
    (Decides-and _ _ (IsEquality-same_signal a.charge b.charge) (IsEquality-same_timer a.timer b.timer)))))
