use Rattle.std.proofs.Common.{sym, ap, ◌∙◌, subst}
use Rattle.flat_net.specs.declared.parts.Element.{Element}
use Rattle.flat_net.specs.Patches.{Netlist}
use Rattle.cell_step.specs.Readings.{AreNetsOf}
use Rattle.cell_step.specs.Elements.{input_signals, next_element}
use Rattle.cell_step.specs.Fitting.{FitsKind}
use Rattle.cell_step.proofs.ElementLemmas.{element_at_is, element_is, ins_within}
use Rattle.cell_step.proofs.elements.element_step.Goals as goal

pub next_element-requires-clause-pins : goal.next_element-requires-clause-pins
next_element-requires-clause-pins g c =
    (element_is c.args.flat.now c.args.e c.element.result.now c.element_count.ensures.sound c.element.ensures).pins

pub next_element-requires-clause-nets : goal.next_element-requires-clause-nets
next_element-requires-clause-nets g c =
    subst (λ (n : Netlist). AreNetsOf n.parts c.element.result.now.ins) (sym c.requires.view)
    (ins_within c.args.flat.now c.args.e c.element.result.now c.element_count.ensures.sound c.element.ensures)

pub next_element-requires-clause-zero_level : goal.next_element-requires-clause-zero_level
next_element-requires-clause-zero_level g c =
    (element_is c.args.flat.now c.args.e c.element.result.now c.element_count.ensures.sound c.element.ensures).strengths.0

pub next_element-requires-clause-one_level : goal.next_element-requires-clause-one_level
next_element-requires-clause-one_level g c =
    (element_is c.args.flat.now c.args.e c.element.result.now c.element_count.ensures.sound c.element.ensures).strengths.1

pub next_element-requires-clause-fits : goal.next_element-requires-clause-fits
next_element-requires-clause-fits g c =
    subst (λ (e : Element). FitsKind c.args.flat.now.parts e.kind c.args.state.now)
    (element_at_is c.args.flat.now.parts c.args.e c.element.result.now c.element.ensures) c.requires.state.1

pub returns-clause-state : goal.returns-clause-state
returns-clause-state g c =
    c.next_element.ensures.state
    ∙ ap (λ (e : Element). next_element c.args.flat.now.parts e c.args.patch c.args.now
    (input_signals (g.V.View.readings c.args.view.now) c.args.patch e) c.args.state.now)
    (sym (element_at_is c.args.flat.now.parts c.args.e c.element.result.now c.element.ensures))

pub returns-clause-fits : goal.returns-clause-fits
returns-clause-fits g c = (
  c.next_element.ensures.seen,
  subst (λ (e : Element). FitsKind c.args.flat.now.parts e.kind c.next_element.new.state)
      (sym (element_at_is c.args.flat.now.parts c.args.e c.element.result.now c.element.ensures)) c.next_element.ensures.fits,
)
