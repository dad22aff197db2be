use Rattle.std.proofs.Common.{ℕ, slice_set, ◌≡◌, length, get_or, arith, ap, sym, ◌∙◌, subst, inl, inr, get_or-set_same, get_or-set_other}
use Rattle.std.proofs.lemmas.List.FromFn.{fill_by_all}
use Rattle.std.proofs.lemmas.List.{get_or_default}
use Rattle.std.proofs.lemmas.Bool.{cases_eq}
use Rattle.level_range.specs.declared.range.Kind.TheVariants.{Plain}
use Rattle.level_range.specs.Signal.{undriven}
use Rattle.level_range.specs.Combine.{join_of}
use Rattle.net_settle.specs.Charges.{charged_signals, contribution, signal_at}
use Rattle.net_settle.proofs.island.charge_signals.Goals as goal

pub loop-net-preserved : goal.loop-net-preserved
loop-net-preserved c k d lt =
    let n = c.loop-net.net in
    let own = c.index-own-net.is ∙ get_or_default c.args.own.now n c.index-own-net.result undriven (omega arith) in
    let charge = c.index-charges-net.is ∙ get_or_default c.args.charges.now n c.index-charges-net.result undriven (omega arith) in
    let driven = c.index-driven-net.is ∙ get_or_default c.args.driven.now n c.index-driven-net.result undriven (omega arith) in
    let given =
    c.contribution-given.ensures
    ∙ ap (λ s. contribution (get_or c.args.levels.now n 0) s c.index-driven-net.result) charge
    ∙ ap (contribution (get_or c.args.levels.now n 0) (signal_at c.args.charges.now n)) driven in
    let here =
    get_or-set_same c.loop-net.out n c.join.result d (omega arith) ∙ c.join.ensures.bounds
    ∙ ap (λ s. join_of (get_or c.args.kinds.now n Plain) s c.contribution-given.result) own
    ∙ ap (join_of (get_or c.args.kinds.now n Plain) (signal_at c.args.own.now n)) given in
    elim (cases_eq k c.loop-net.net) [
      | inl e ↦
          let P : ℕ → Type 0 = λ i. get_or (slice_set c.loop-net.out n c.join.result) i d
          ≡ join_of (get_or c.args.kinds.now i Plain) (signal_at c.args.own.now i)
          (contribution (get_or c.args.levels.now i 0) (signal_at c.args.charges.now i) (signal_at c.args.driven.now i)) in
          subst P (sym e) here
      | inr ne ↦ get_or-set_other c.loop-net.out c.loop-net.net k c.join.result d ne ∙ c.loop-net.invariant k d (omega arith)
    ]

pub returns : goal.returns
unfolding charged_signals
returns c =
    fill_by_all _ c.loop-net.out (length c.args.own.now) undriven (omega arith)
    (λ n lt. c.loop-net.invariant n undriven (omega arith))
