use Rattle.std.proofs.Common.{◌≡◌, ap, sym, ◌∙◌, subst}
use Rattle.std.specs.Prelude.{ℤ, ◌≤ℤ◌}
use Rattle.level_range.specs.Signal.{Signal}
use Rattle.net_settle.specs.Charges.{charge_bound, charge_left}
use Rattle.net_settle.specs.Conditions.{IsCharge}
use Rattle.net_settle.proofs.Contributions.{left-charge}
use Rattle.net_settle.proofs.ChargeBounds.{charge_bound-order, charge_left-some}
use Rattle.net_settle.proofs.charge.charge_left.Goals as goal

pub signal-requires : goal.signal-requires
signal-requires c =
    let low = c.charge_bound-lower.ensures ∙ ap (charge_bound c.args.strength) c.bound.ensures.value in
    let high = c.charge_bound-upper.ensures ∙ ap (charge_bound c.args.strength) c.bound-2.ensures.value in
    subst (λ x. x ≤ℤ c.charge_bound-upper.result) (sym low)
    (subst (λ x. charge_bound c.args.strength c.args.settled.lo ≤ℤ x) (sym high)
    (charge_bound-order c.args.strength c.args.settled.lo c.args.settled.hi c.bound.ensures.signal.order))

left : (c : goal.After-signal) → c.signal.result ≡ charge_left c.args.strength c.args.charge c.args.settled
left c =
    let of : ℤ → ℤ → Signal = λ x y. record { lo = x; hi = y } in
    let low = c.charge_bound-lower.ensures ∙ ap (charge_bound c.args.strength) c.bound.ensures.value in
    let high = c.charge_bound-upper.ensures ∙ ap (charge_bound c.args.strength) c.bound-2.ensures.value in
    c.signal.ensures ∙ ap (λ x. of x c.charge_bound-upper.result) low ∙ ap (of (charge_bound c.args.strength c.args.settled.lo)) high
    ∙ sym (charge_left-some c.args.strength c.args.charge c.args.settled c.if-strength-eq0.false)

pub returns-clause-value : goal.returns-clause-value
returns-clause-value c = left c

pub returns-clause-charge : goal.returns-clause-charge
returns-clause-charge c some =
    subst (IsCharge c.args.strength) (sym (left c)) (left-charge c.args.strength c.args.charge c.args.settled some c.bound.ensures.signal.order)
