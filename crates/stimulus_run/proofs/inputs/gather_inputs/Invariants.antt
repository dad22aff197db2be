use Rattle.std.proofs.Common.{get_or, ℕ}
use Rattle.level_range.specs.Signal.{undriven}
use Rattle.cell_step.proofs.Filling.{IsFilled}
use Rattle.stimulus_run.proofs.inputs.gather_inputs.Given as goal

-- the inputs before this one have their signals
abbrev pub invariant-loop-k : goal.invariant-loop-k
invariant-loop-k l = IsFilled (λ (j : ℕ). get_or l.forced (get_or l.nets j 0) undriven) undriven l.initial.inputs l.inputs l.k
