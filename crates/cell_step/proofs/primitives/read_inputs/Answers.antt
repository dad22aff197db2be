use Rattle.std.proofs.Common.{length, ap, ◌∙◌, arith}
use Rattle.cell_step.proofs.PrimitiveLemmas.{over_inputs, over_all}
use Rattle.cell_step.proofs.primitives.read_inputs.Goals as goal

pub loop-place-preserved : goal.loop-place-preserved
loop-place-preserved g c =
    let more =
    over_inputs (g.V.View.readings c.args.view.now) c.args.patch c.args.e.now c.args.seen c.loop-place.place
    (omega (arith, ap length c.as_slice-place-end.ensures)) (omega (arith, ap length c.as_slice-place-end.ensures)) in cc

pub returns : goal.returns
returns g c =
    c.loop-place.invariant
    ∙ over_all (g.V.View.readings c.args.view.now) c.args.patch c.args.e.now c.args.seen c.loop-place.place
    (omega (arith, ap length c.as_slice-place-end.ensures))
