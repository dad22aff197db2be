use Rattle.std.proofs.Common.{ℕ, ◌≤◌, length, ◌∙◌, sym, arith}
use Rattle.cell_step.specs.declared.states.CellState.{CellState}
use Rattle.flat_net.specs.declared.kinds.Cell.TheVariants.{Island as IslandCell}
use Rattle.machine.specs.Pass.{cell_after}
use Rattle.plain_sim.specs.Lists.{read_by_islands}
use Rattle.plain_sim.proofs.Stepping.{changed-all}
use Rattle.plain_sim.proofs.phases.settle_islands.Goals as goal

pub returns-clause-states : goal.returns-clause-states
returns-clause-states g c =
    changed-all
    (λ (k : ℕ) (s : CellState). cell_after c.args.flat.now (IslandCell k) c.args.now (read_by_islands c.args.flat.now c.args.elements.now c.args.forced.now) s)
    c.args.islands.now c.loop-number.islands c.loop-number.number
    (let e = c.requires.islands.count in let f = c.island_count-count.ensures.count in let t = c.loop-number-test.false in omega arith)
    c.loop-number.invariant.changed
