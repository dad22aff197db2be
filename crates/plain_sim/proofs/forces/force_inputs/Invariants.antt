use Rattle.plain_sim.proofs.Inputs.{AreForcedUpTo}
use Rattle.plain_sim.proofs.forces.force_inputs.Given as goal

-- the inputs before this one stand at their nets
abbrev pub invariant-loop-k : goal.invariant-loop-k
invariant-loop-k l = AreForcedUpTo l.nets l.inputs l.initial.forced l.forced l.k
