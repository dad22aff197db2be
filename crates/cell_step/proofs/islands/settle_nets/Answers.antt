use Rattle.std.proofs.Common.{◌≡◌, List, ap, sym, ◌∙◌, subst}
use Rattle.level_range.specs.Signal.{Signal}
use Rattle.net_settle.specs.Charges.{driven_signals, island_signals, charges_left}
use Rattle.net_settle.specs.Conditions.{AreCharges}
use Rattle.cell_step.specs.declared.states.NetState.{NetState}
use Rattle.cell_step.specs.declared.states.IslandState.{IslandState}
use Rattle.cell_step.specs.Islands.{charges_of, nets_after, next_island}
use Rattle.cell_step.proofs.islands.settle_nets.Goals as goal

pub returns-clause-state : goal.returns-clause-state
unfolding next_island
returns-clause-state c =
    let parts = c.args.flat.now.parts in
    let island = c.args.island.now in
    let shape = island.shape in
    let own = c.args.own.now in
    let on = c.args.on.now in
    let states = c.args.state.now.nets in
    let charges = charges_of states in
    let signals = c.settle.ensures.signals ∙ ap (island_signals shape on own) c.read_charges.ensures in
    let left = c.settle.ensures.charges
    ∙ ap (λ l. charges_left shape.charge l c.settle.new.out) c.read_charges.ensures
    ∙ ap (charges_left shape.charge charges) signals in
    ap (λ l. let i : IslandState = record { nets = l } in i)
    (c.step_nets.ensures
    ∙ ap (λ l. nets_after parts island c.args.now l c.settle.new.out c.settle.new.charges states) c.settle.ensures.driven
    ∙ ap (λ l. nets_after parts island c.args.now (driven_signals shape on own) l c.settle.new.charges states) signals
    ∙ ap (λ l. nets_after parts island c.args.now (driven_signals shape on own) (island_signals shape on own charges) l states) left)

pub returns-clause-charges : goal.returns-clause-charges
returns-clause-charges c =
    let shape = c.args.island.now.shape in
    let own = c.args.own.now in
    let on = c.args.on.now in
    let charges = charges_of c.args.state.now.nets in
    let signals = c.settle.ensures.signals ∙ ap (island_signals shape on own) c.read_charges.ensures in
    subst (AreCharges shape.charge)
    (c.settle.ensures.charges
    ∙ ap (λ l. charges_left shape.charge l c.settle.new.out) c.read_charges.ensures
    ∙ ap (charges_left shape.charge charges) signals)
    c.settle.ensures.left
