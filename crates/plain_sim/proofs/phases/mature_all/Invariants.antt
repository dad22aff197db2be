use Rattle.std.proofs.Common.{ℕ}
use Rattle.cell_step.specs.declared.states.CellState.{CellState}
use Rattle.cell_step.specs.Changes.{mature_cell}
use Rattle.plain_sim.proofs.Stepping.{AreChanged}
use Rattle.plain_sim.proofs.phases.mature_all.Given as goal

-- the cells before this one have matured
abbrev pub invariant-loop-number : goal.invariant-loop-number
invariant-loop-number l = AreChanged (λ (k : ℕ) (s : CellState). mature_cell l.fn.now s) l.fn.cells l.cells l.number
