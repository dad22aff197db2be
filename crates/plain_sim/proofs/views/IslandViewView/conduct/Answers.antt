use Rattle.std.proofs.Common.{◌≡◌, refl, ap, sym, ◌∙◌}
use Rattle.std.proofs.lemmas.List.{get_or_default}
use Rattle.flat_net.specs.declared.kinds.Patch.{Patch}
use Rattle.flat_net.specs.declared.kinds.Cell.TheVariants.{Element as ElementCell}
use Rattle.flat_net.specs.Patches.{patch_of}
use Rattle.cell_step.specs.declared.states.CellState.{CellState}
use Rattle.cell_step.specs.declared.states.CellState.TheVariants.{Island}
use Rattle.cell_step.specs.Elements.{conduct_at}
use Rattle.machine.specs.Machine.{as_element}
use Rattle.plain_sim.proofs.Stepping.{no_cell}
use Rattle.plain_sim.proofs.Places.{switch-within, has-within, no-island}
use Rattle.plain_sim.proofs.views.IslandViewView.conduct.Goals as goal

pub bounds-self-element : goal.bounds-self-element
bounds-self-element c =
    has-within c.args.self.now.flat.now.parts c.args.self.now.elements.now c.args.element c.args.self.now.states
    (switch-within c.args.self.now.flat.now.parts c.args.element c.requires)

pub unreachable-requires : goal.unreachable-requires
unreachable-requires c =
    let parts = c.args.self.now.flat.now.parts in
    let lt = switch-within parts c.args.element c.requires in
    no-island parts c.args.self.now.elements.now c.args.element (Island c.in-Island.field-0) c.args.self.now.states lt
    (sym (get_or_default c.args.self.now.elements.now c.args.element c.index-self-element.result no_cell
    (has-within parts c.args.self.now.elements.now c.args.element c.args.self.now.states lt)) ∙ c.in-Island.is) refl

pub returns : goal.returns
returns c =
    let parts = c.args.self.now.flat.now.parts in
    let lt = switch-within parts c.args.element c.requires in
    let state = sym (get_or_default c.args.self.now.elements.now c.args.element c.index-self-element.result no_cell
    (has-within parts c.args.self.now.elements.now c.args.element c.args.self.now.states lt)) ∙ c.in-Element.is in
    c.conduct_of.ensures ∙ ap (λ (p : Patch). conduct_at p c.in-Element.state) c.patch-patch.ensures.patch
    ∙ ap (λ (s : CellState). conduct_at (patch_of c.args.self.now.flat.now (ElementCell c.args.element)) (as_element s)) (sym state)
