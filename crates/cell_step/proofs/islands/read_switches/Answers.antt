use Rattle.std.proofs.Common.{arith}
use Rattle.level_range.specs.declared.range.Conduct.TheVariants.{Off}
use Rattle.cell_step.proofs.Filling.{filled-map}
use Rattle.cell_step.proofs.islands.read_switches.Goals as goal

pub returns : goal.returns
returns g c =
    filled-map (g.V.View.readings c.args.view.now).conduct Off 0 c.args.links.now c.args.on.now c.loop-k.on c.loop-k.k c.requires.size
    (let t = c.loop-k-test.false in let s = c.requires.size in omega arith) c.loop-k.invariant
