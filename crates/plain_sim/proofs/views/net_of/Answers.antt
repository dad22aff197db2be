use Rattle.std.proofs.Common.{◌≡◌, ◌<◌, ℕ, List, length, refl, ap, sym, ◌∙◌, arith}
use Rattle.std.specs.Prelude.{slice_get}
use Rattle.std.proofs.lemmas.List.{get_or_default}
use Rattle.std.proofs.lemmas.Option.{get_or_from_slice_get}
use Rattle.flat_net.specs.declared.parts.NetPart.{NetPart}
use Rattle.flat_net.specs.declared.parts.Parts.{Parts}
use Rattle.cell_step.specs.declared.states.CellState.{CellState}
use Rattle.cell_step.specs.declared.states.CellState.TheVariants.{Element, Island}
use Rattle.cell_step.specs.Readings.{no_net, net_at}
use Rattle.cell_step.specs.Islands.{no_state, state_at}
use Rattle.machine.specs.Machine.{as_island, state_among}
use Rattle.plain_sim.specs.Lists.{HasNets}
use Rattle.plain_sim.proofs.Stepping.{no_cell}
use Rattle.plain_sim.proofs.Places.{island-within}
use Rattle.plain_sim.proofs.views.net_of.Goals as goal

-- the place of the net is within its island's states
place-deep : (parts : Parts) (islands : List CellState) (net : ℕ) (part : NetPart) → net_at parts net ≡ part → net < length parts.nets → HasNets parts islands →
    part.place < length (as_island (state_among islands part.island)).nets
place-deep parts islands net part is lt has =
    let e = ap (λ (p : NetPart). p.place) is in
    let f = ap (λ (p : NetPart). length (as_island (state_among islands p.island)).nets) is in
    let h = has net lt in omega arith

pub bounds-islands-part : goal.bounds-islands-part
bounds-islands-part c =
    let parts = c.args.flat.now.parts in
    let part = c.net-part.result.now in
    island-within c.args.islands.now part.island part.place
    (place-deep parts c.args.islands.now c.args.net part (get_or_from_slice_get parts.nets c.args.net part no_net c.net-part.ensures)
    c.requires.net c.requires.states)

pub at-requires : goal.at-requires
at-requires c =
    let parts = c.args.flat.now.parts in
    let part = c.net-part.result.now in
    let deep = place-deep parts c.args.islands.now c.args.net part (get_or_from_slice_get parts.nets c.args.net part no_net c.net-part.ensures)
    c.requires.net c.requires.states in
    let state = sym (get_or_default c.args.islands.now part.island c.index-islands-part.result no_cell
    (island-within c.args.islands.now part.island part.place deep)) ∙ sym c.index-islands-part.is ∙ c.in-Island.is in
    let e = ap (λ (s : CellState). length (as_island s).nets) state in
    omega arith

pub unreachable-requires : goal.unreachable-requires
unreachable-requires c =
    let parts = c.args.flat.now.parts in
    let part = c.net-part.result.now in
    let deep = place-deep parts c.args.islands.now c.args.net part (get_or_from_slice_get parts.nets c.args.net part no_net c.net-part.ensures)
    c.requires.net c.requires.states in
    let state = sym (get_or_default c.args.islands.now part.island c.index-islands-part.result no_cell
    (island-within c.args.islands.now part.island part.place deep)) ∙ sym c.index-islands-part.is ∙ c.in-Element.is in
    let e = ap (λ (s : CellState). length (as_island s).nets) state in
    omega arith

pub returns : goal.returns
returns c =
    let parts = c.args.flat.now.parts in
    let part = c.net-part.result.now in
    let same = get_or_from_slice_get parts.nets c.args.net part no_net c.net-part.ensures in
    let deep = place-deep parts c.args.islands.now c.args.net part same c.requires.net c.requires.states in
    let state = sym (get_or_default c.args.islands.now part.island c.index-islands-part.result no_cell
    (island-within c.args.islands.now part.island part.place deep)) ∙ sym c.index-islands-part.is ∙ c.in-Island.is in
    sym (get_or_from_slice_get c.in-Island.state.nets part.place c.at.result no_state c.at.ensures)
    ∙ ap (λ (s : CellState). state_at (as_island s).nets part.place) (sym state)
    ∙ ap (λ (p : NetPart). state_at (as_island (state_among c.args.islands.now p.island)).nets p.place) (sym same)
