use Rattle.std.proofs.Common.{◌≡◌, ◌+◌, ℕ}
use Rattle.cell_step.specs.declared.states.CellState.{CellState}
use Rattle.flat_net.specs.declared.kinds.Cell.TheVariants.{Island as IslandCell}
use Rattle.machine.specs.Pass.{cell_after}
use Rattle.plain_sim.specs.Lists.{AreIslands, read_by_islands}
use Rattle.plain_sim.proofs.Stepping.{AreChanged}
use Rattle.plain_sim.proofs.phases.settle_islands.Given as goal

-- the islands before this one have settled, each in a step
abbrev pub invariant-loop-number : goal.invariant-loop-number
invariant-loop-number g l = record {
  changed :
      AreChanged (λ (k : ℕ) (s : CellState). cell_after l.fn.flat (IslandCell k) l.fn.now (read_by_islands l.fn.flat l.fn.elements l.fn.forced) s)
      l.fn.islands l.islands l.number;
  fits : AreIslands l.fn.flat.parts l.islands;
  room : l.bench ≡ l.fn.bench;
  counted : l.steps ≡ l.fn.steps + l.number;
}
