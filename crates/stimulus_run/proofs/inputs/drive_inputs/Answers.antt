use Rattle.std.proofs.Common.{◌≡◌, length, arith, subst, ◌∙◌}
use Rattle.std.specs.Prelude.{map}
use Rattle.std.proofs.lemmas.List.{length-map}
use Rattle.plain_sim.proofs.Inputs.{AreForcedUpTo, forced-all}
use Rattle.stimulus_run.specs.Inputs.{driven_signal}
use Rattle.stimulus_run.proofs.inputs.drive_inputs.Goals as goal

pub returns : goal.returns
returns c =
    let inputs = map driven_signal c.args.values.now in
    let e : c.loop-k.k ≡ length c.args.nets.now = omega arith in
    forced-all c.args.nets.now inputs c.args.forced.now c.loop-k.forced
    (length-map c.args.values.now driven_signal ∙ c.requires.values) c.requires.others
    (subst (AreForcedUpTo c.args.nets.now inputs c.args.forced.now c.loop-k.forced) e c.loop-k.invariant)
