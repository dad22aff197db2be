use Rattle.std.proofs.Common.{◌≡◌, length, arith, subst}
use Rattle.plain_sim.proofs.Inputs.{AreForcedUpTo, forced-all}
use Rattle.plain_sim.proofs.forces.force_inputs.Goals as goal

pub returns : goal.returns
returns c =
    let e : c.loop-k.k ≡ length c.args.nets.now = omega arith in
    forced-all c.args.nets.now c.args.inputs.now c.args.forced.now c.loop-k.forced c.requires.inputs c.requires.others
    (subst (AreForcedUpTo c.args.nets.now c.args.inputs.now c.args.forced.now c.loop-k.forced) e c.loop-k.invariant)
