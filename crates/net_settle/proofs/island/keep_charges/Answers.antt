use Rattle.std.proofs.Common.{◌≡◌, ℕ, length, get_or, slice_set, arith, ap, sym, ◌∙◌, subst, inl, inr, get_or-set_same, get_or-set_other}
use Rattle.std.proofs.lemmas.List.FromFn.{fill_by_all}
use Rattle.std.proofs.lemmas.List.{get_or_default, get_or_past}
use Rattle.std.proofs.lemmas.Bool.{cases_eq, cases_lt}
use Rattle.level_range.specs.Signal.{undriven}
use Rattle.net_settle.specs.Charges.{charges_left, charge_left, signal_at}
use Rattle.net_settle.specs.Conditions.{IsCharge}
use Rattle.net_settle.proofs.island.keep_charges.Goals as goal

pub loop-net-preserved : goal.loop-net-preserved
loop-net-preserved c =
    let n = c.loop-net.net in
    let levels = c.args.levels.now in
    let charge =
    c.index-charges-net.is ∙ get_or_default c.loop-net.charges n c.index-charges-net.result undriven (omega arith)
    ∙ c.loop-net.invariant.1 n undriven (omega arith) in
    let signal = c.index-signals-net.is ∙ get_or_default c.args.signals.now n c.index-signals-net.result undriven (omega arith) in
    let left =
    c.charge_left.ensures.value ∙ ap (λ s. charge_left (get_or levels n 0) s c.index-signals-net.result) charge
    ∙ ap (charge_left (get_or levels n 0) (signal_at c.args.charges.now n)) signal in (
      λ k d lt. elim (cases_eq k n) [
        | inl e ↦
            ap (λ i. get_or (slice_set c.loop-net.charges n c.charge_left.result) i d) e
            ∙ get_or-set_same c.loop-net.charges n c.charge_left.result d (omega arith) ∙ left
            ∙ ap (λ i. charge_left (get_or levels i 0) (signal_at c.args.charges.now i) (signal_at c.args.signals.now i)) (sym e)
        | inr ne ↦ get_or-set_other c.loop-net.charges n k c.charge_left.result d ne ∙ c.loop-net.invariant.0 k d (omega arith)
      ],
      λ k d le. get_or-set_other c.loop-net.charges n k c.charge_left.result d (λ (e : k ≡ n). absurd (omega arith)) ∙ c.loop-net.invariant.1 k d (omega arith),
      λ k d lt some. elim (cases_eq k n) [
        | inl e ↦
            let here = c.charge_left.ensures.charge (λ z. some (ap (λ i. get_or levels i 0) e ∙ z)) in
            let P : ℕ → Type 0 = λ i. IsCharge (get_or levels i 0) c.charge_left.result in
            subst (IsCharge (get_or levels k 0))
            (sym (ap (λ i. get_or (slice_set c.loop-net.charges n c.charge_left.result) i d) e ∙ get_or-set_same c.loop-net.charges n c.charge_left.result d (omega arith)))
            (subst P (sym e) here)
        | inr ne ↦
            subst (IsCharge (get_or levels k 0)) (sym (get_or-set_other c.loop-net.charges n k c.charge_left.result d ne))
            (c.loop-net.invariant.2 k d (omega arith) some)
      ],
    )

pub returns-clause-value : goal.returns-clause-value
unfolding charges_left
returns-clause-value c =
    fill_by_all _ c.loop-net.charges (length c.args.charges.now) undriven c.loop-net.auto.charges
    (λ n lt. c.loop-net.invariant.0 n undriven (omega arith))

pub returns-clause-charged : goal.returns-clause-charged
returns-clause-charged c n some = elim (cases_lt n (length c.args.levels.now)) [
  | inl lt ↦ c.loop-net.invariant.2 n undriven (omega arith) some
  | inr ge ↦ absurd (some (get_or_past c.args.levels.now n 0 ge))
]

pub returns-clause-stays : goal.returns-clause-stays
returns-clause-stays c n none = elim (cases_lt n (length c.args.charges.now)) [
  | inl lt ↦
      c.loop-net.invariant.0 n undriven (omega arith)
      ∙ ap (λ k. charge_left k (signal_at c.args.charges.now n) (signal_at c.args.signals.now n)) none
  | inr ge ↦ c.loop-net.invariant.1 n undriven (omega arith)
]
