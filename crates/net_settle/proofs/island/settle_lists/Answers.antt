use Rattle.std.proofs.Common.{length, arith, ap, sym, ◌∙◌, subst}
use Rattle.std.specs.Prelude.{zip, List}
use Rattle.level_range.specs.Signal.{Signal}
use Rattle.net_settle.specs.ByLevels.{settled_signals}
use Rattle.net_settle.specs.Charges.{driven_signals, island_signals, charged_signals, prefer_driven_signals, switches_of}
use Rattle.net_settle.specs.Settling.{AreSettled}
use Rattle.net_settle.proofs.Laws.{settled-are_settled}
use Rattle.net_settle.proofs.Listed.{settled-between}
use Rattle.net_settle.proofs.island.settle_lists.Goals as goal

pub returns-clause-driven : goal.returns-clause-driven
unfolding driven_signals
returns-clause-driven c =
    c.drive.ensures
    ∙ settled-between (zip c.as_slice-links.result.now c.args.on.now) c.args.own.now c.settle_both.new.lower c.settle_both.new.upper (length c.args.driven.now)
    c.settle_both.ensures.lower c.settle_both.ensures.upper c.requires.driven_nets
    ∙ ap (λ l. settled_signals (zip l c.args.on.now) c.args.own.now) c.as_slice-links.ensures

pub returns-clause-signals : goal.returns-clause-signals
unfolding island_signals driven_signals
returns-clause-signals c =
    let switches = switches_of c.args.shape.now c.args.on.now in
    let read = zip c.as_slice-links.result.now c.args.on.now in
    let driven =
    c.drive.ensures
    ∙ settled-between read c.args.own.now c.settle_both.new.lower c.settle_both.new.upper (length c.args.driven.now)
    c.settle_both.ensures.lower c.settle_both.ensures.upper c.requires.driven_nets
    ∙ ap (λ l. settled_signals (zip l c.args.on.now) c.args.own.now) c.as_slice-links.ensures in
    let second =
    settled-between read c.charge_signals.new.out c.settle_both-2.new.lower c.settle_both-2.new.upper (length c.charge_signals.new.out)
    c.settle_both-2.ensures.lower c.settle_both-2.ensures.upper (omega arith)
    ∙ ap (λ l. settled_signals (zip l c.args.on.now) c.charge_signals.new.out) c.as_slice-links.ensures in
    let kinds = c.args.shape.now.kinds in
    let levels = c.args.shape.now.charge in
    let charged : List Signal → List Signal = charged_signals kinds levels c.args.own.now c.args.charges.now in
    let charge =
    c.charge_signals.ensures
    ∙ ap (λ k. charged_signals k c.as_slice-levels.result.now c.args.own.now c.args.charges.now c.drive.new.driven) c.as_slice.ensures
    ∙ ap (λ l. charged_signals kinds l c.args.own.now c.args.charges.now c.drive.new.driven) c.as_slice-levels.ensures in
    c.choose.ensures
    ∙ ap (prefer_driven_signals c.drive.new.driven) second
    ∙ ap (λ s. prefer_driven_signals c.drive.new.driven (settled_signals switches s)) charge
    ∙ ap (λ s. prefer_driven_signals s (settled_signals switches (charged s))) driven

pub returns-clause-driven_settled : goal.returns-clause-driven_settled
unfolding driven_signals
returns-clause-driven_settled c =
    let switches = switches_of c.args.shape.now c.args.on.now in
    let is = returns-clause-driven c in
    subst (AreSettled switches c.args.own.now) (sym is) (settled-are_settled switches c.args.own.now c.settle_both.ensures.own)

pub returns-clause-charged : goal.returns-clause-charged
returns-clause-charged c =
    let switches = switches_of c.args.shape.now c.args.on.now in
    let kinds = c.args.shape.now.kinds in
    let second =
    settled-between (zip c.as_slice-links.result.now c.args.on.now) c.charge_signals.new.out c.settle_both-2.new.lower c.settle_both-2.new.upper
    (length c.charge_signals.new.out) c.settle_both-2.ensures.lower c.settle_both-2.ensures.upper (omega arith)
    ∙ ap (λ l. settled_signals (zip l c.args.on.now) c.charge_signals.new.out) c.as_slice-links.ensures in
    let charge =
    c.charge_signals.ensures
    ∙ ap (λ k. charged_signals k c.as_slice-levels.result.now c.args.own.now c.args.charges.now c.drive.new.driven) c.as_slice.ensures
    ∙ ap (λ l. charged_signals kinds l c.args.own.now c.args.charges.now c.drive.new.driven) c.as_slice-levels.ensures in
    record {
      second = settled_signals switches c.charge_signals.new.out;
      settled = subst (λ (own : List Signal). AreSettled switches own (settled_signals switches c.charge_signals.new.out)) charge
          (settled-are_settled switches c.charge_signals.new.out c.settle_both-2.ensures.own);
      prefer_driven = c.choose.ensures ∙ ap (prefer_driven_signals c.drive.new.driven) second;
    }
