use Rattle.std.proofs.Common.{◌≡◌, ◌+◌, ℕ}
use Rattle.cell_step.specs.declared.states.CellState.{CellState}
use Rattle.flat_net.specs.declared.kinds.Cell.TheVariants.{Element as ElementCell}
use Rattle.machine.specs.Pass.{cell_after}
use Rattle.plain_sim.specs.Lists.{AreElements, read_by_elements}
use Rattle.plain_sim.proofs.Stepping.{AreChanged}
use Rattle.plain_sim.proofs.phases.evaluate_elements.Given as goal

-- the elements before this one have their targets, each in a step
abbrev pub invariant-loop-number : goal.invariant-loop-number
invariant-loop-number g l = record {
  changed :
      AreChanged (λ (k : ℕ) (s : CellState). cell_after l.fn.flat (ElementCell k) l.fn.now (read_by_elements l.fn.flat l.fn.islands) s)
      l.fn.elements l.elements l.number;
  fits : AreElements l.fn.flat.parts l.elements;
  counted : l.steps ≡ l.fn.steps + l.number;
}
