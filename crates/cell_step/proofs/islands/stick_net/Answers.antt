use Rattle.std.proofs.Common.{length, arith}
use Rattle.level_range.specs.Signal.{undriven}
use Rattle.cell_step.proofs.Filling.{filled-all}
use Rattle.cell_step.proofs.islands.stick_net.Goals as goal

pub returns : goal.returns
returns c =
    filled-all _ undriven c.args.own.now c.loop-place.own (length c.args.nets.now) c.loop-place.place c.requires.size
    (let t = c.loop-place-test.false in let s = c.requires.size in omega arith) c.loop-place.invariant
