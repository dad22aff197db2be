use Rattle.std.proofs.Common.{ℕ, get_or, arith}
use Rattle.level_range.specs.Signal.{undriven}
use Rattle.cell_step.proofs.Filling.{filled-map}
use Rattle.stimulus_run.proofs.inputs.gather_inputs.Goals as goal

pub returns : goal.returns
returns c =
    filled-map (λ (net : ℕ). get_or c.args.forced.now net undriven) undriven 0 c.args.nets.now c.args.inputs.now c.loop-k.inputs c.loop-k.k
    c.requires.inputs (omega arith) c.loop-k.invariant
