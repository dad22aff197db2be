use Rattle.level_range.specs.Signal.{undriven}
use Rattle.cell_step.specs.Islands.{state_at}
use Rattle.cell_step.proofs.Filling.{IsFilled}
use Rattle.cell_step.proofs.islands.read_charges.Given as goal

-- the charges before this place have been read
abbrev pub invariant-loop-place : goal.invariant-loop-place
invariant-loop-place l = IsFilled (λ place. (state_at l.nets place).charge) undriven l.fn.charges l.charges l.place
