use Rattle.std.proofs.Common.{ℕ, ◌≤◌, length, arith}
use Rattle.cell_step.specs.declared.states.CellState.{CellState}
use Rattle.flat_net.specs.declared.kinds.Cell.TheVariants.{Element as ElementCell}
use Rattle.machine.specs.Pass.{cell_after}
use Rattle.plain_sim.specs.Lists.{read_by_elements}
use Rattle.plain_sim.proofs.Stepping.{changed-all}
use Rattle.plain_sim.proofs.Places.{has-nets}
use Rattle.plain_sim.proofs.phases.evaluate_elements.Goals as goal

pub invariant_of-view : goal.invariant_of-view
invariant_of-view g c = record {
  states = has-nets c.args.flat.now.parts c.element_count-count.ensures.sound.sound c.args.islands.now c.requires.islands;
}

pub returns-clause-states : goal.returns-clause-states
returns-clause-states g c =
    changed-all
    (λ (k : ℕ) (s : CellState). cell_after c.args.flat.now (ElementCell k) c.args.now (read_by_elements c.args.flat.now c.args.islands.now) s)
    c.args.elements.now c.loop-number.elements c.loop-number.number
    (let e = c.requires.elements.count in let f = c.element_count-count.ensures.count in let t = c.loop-number-test.false in omega arith)
    c.loop-number.invariant.changed
