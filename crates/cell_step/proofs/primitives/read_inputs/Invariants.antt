use Rattle.std.proofs.Common.{◌≡◌}
use Rattle.cell_step.specs.Elements.{input_signals}
use Rattle.cell_step.proofs.PrimitiveLemmas.{over}
use Rattle.cell_step.proofs.primitives.read_inputs.Given as goal

abbrev pub invariant-loop-place : goal.invariant-loop-place
invariant-loop-place g l = l.values ≡ over (input_signals (g.V.View.readings l.view) l.patch l.e) l.fn.seen l.place
