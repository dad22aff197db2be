use Rattle.std.proofs.Common.{◌≡◌, List, ap, sym, ◌∙◌, subst}
use Rattle.cell_step.specs.declared.states.NetState.{NetState}
use Rattle.cell_step.specs.declared.states.CellState.{CellState}
use Rattle.plain_sim.specs.Plain.{PlainMachine, seen_signal}
use Rattle.plain_sim.specs.Lists.{HasNets, net_among}
use Rattle.plain_sim.proofs.Places.{has-nets}
use Rattle.plain_sim.proofs.Passes.{net-right}
use Rattle.plain_sim.proofs.run.PlainRun.seen.Goals as goal

pub net_of-requires-clause-states : goal.net_of-requires-clause-states
net_of-requires-clause-states c =
    let parts = c.self.inside.flat.now.parts in
    subst (HasNets parts) (sym c.as_slice.ensures.value)
    (has-nets parts c.net_count-nets.ensures.sound.sound c.self.inside.islands.items c.self.invariant.islands)

pub returns : goal.returns
returns c =
    let parts = c.self.inside.flat.now.parts in
    ap (λ (s : NetState). s.seen) c.net_of.ensures
    ∙ ap (λ (l : List CellState). (net_among parts l c.args.net).seen) c.as_slice.ensures.value
    ∙ ap (λ (s : NetState). s.seen)
    (sym (net-right parts c.self.inside.elements.items c.self.inside.islands.items c.self.invariant.elements.count c.args.net))
    ∙ ap (λ (p : PlainMachine). seen_signal p c.args.net) c.self.view_is
