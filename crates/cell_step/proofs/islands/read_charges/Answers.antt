use Rattle.std.proofs.Common.{arith}
use Rattle.level_range.specs.Signal.{undriven}
use Rattle.cell_step.specs.declared.states.NetState.{NetState}
use Rattle.cell_step.specs.Islands.{no_state}
use Rattle.cell_step.proofs.Filling.{filled-map}
use Rattle.cell_step.proofs.islands.read_charges.Goals as goal

pub returns : goal.returns
returns c =
    filled-map (λ (s : NetState). s.charge) undriven no_state c.args.nets.now c.args.charges.now c.loop-place.charges c.loop-place.place c.requires
    (let t = c.loop-place-test.false in let s = c.requires in omega arith) c.loop-place.invariant
