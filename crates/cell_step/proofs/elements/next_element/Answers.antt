use Rattle.std.proofs.Common.{length, sym, ap, ◌∙◌, subst}
use Rattle.flat_net.specs.Elements.{joins_ends}
use Rattle.cell_step.specs.Elements.{input_signals, conduct_of_kind}
use Rattle.cell_step.specs.Fitting.{FitsKind}
use Rattle.cell_step.proofs.ElementLemmas.{next_switch, next_other, joins_no_ends, fits_due}
use Rattle.cell_step.proofs.elements.next_element.Goals as goal

pub returns-in-Tran-clause-state : goal.returns-in-Tran-clause-state
returns-in-Tran-clause-state g c =
    let e = c.args.e.now in
    let ins = input_signals (g.V.View.readings c.args.view.now) c.args.patch e in
    let same = ap (λ kind. conduct_of_kind kind c.args.patch ins) c.in-Tran.is in
    let next = next_switch c.args.flat.now.parts e c.args.patch c.args.now ins c.args.state.now (ap joins_ends c.in-Tran.is) in cc

pub returns-in-Tranif-clause-state : goal.returns-in-Tranif-clause-state
returns-in-Tranif-clause-state g c =
    let e = c.args.e.now in
    let ins = input_signals (g.V.View.readings c.args.view.now) c.args.patch e in
    let same = ap (λ kind. conduct_of_kind kind c.args.patch ins) c.in-Tranif.is in
    let next = next_switch c.args.flat.now.parts e c.args.patch c.args.now ins c.args.state.now (ap joins_ends c.in-Tranif.is) in cc

pub returns-in_default : goal.returns-in_default
returns-in_default g c =
    let e = c.args.e.now in
    let parts = c.args.flat.now.parts in
    let ins = input_signals (g.V.View.readings c.args.view.now) c.args.patch e in
    let next =
    next_other parts e c.args.patch c.args.now ins c.args.state.now (joins_no_ends e.kind c.in_default.not-Tran c.in_default.not-Tranif) in
    let state = c.signal_of_kind-target.new.state in record {
      state = cc;
      seen = ap (λ s. length s.seen) c.aim_signal.ensures ∙ c.signal_of_kind-target.ensures.seen;
      fits =
          subst (FitsKind parts e.kind) (sym c.aim_signal.ensures) (fits_due parts e.kind state _ c.signal_of_kind-target.ensures.fits);
    }
