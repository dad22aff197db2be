use Rattle.std.specs.Prelude.{map}
use Rattle.plain_sim.proofs.Inputs.{AreForcedUpTo}
use Rattle.stimulus_run.specs.Inputs.{driven_signal}
use Rattle.stimulus_run.proofs.inputs.drive_inputs.Given as goal

-- the inputs before this one are driven
abbrev pub invariant-loop-k : goal.invariant-loop-k
invariant-loop-k l = AreForcedUpTo l.nets (map driven_signal l.values) l.initial.forced l.forced l.k
