use Rattle.std.proofs.Common.{◌≡◌, length, ap, ◌∙◌, arith}
use Rattle.cell_step.specs.Nets.{net_start}
use Rattle.cell_step.specs.Islands.{no_state}
use Rattle.cell_step.proofs.Filling.{filled-map}
use Rattle.cell_step.proofs.nets.start_nets.Goals as goal

pub returns : goal.returns
returns c =
    filled-map net_start no_state 0 c.args.levels.now c.from_vec-nets.result c.loop-place.nets c.loop-place.place
    (ap length c.from_vec-nets.ensures ∙ c.in_ok-elements.ensures)
    (let t = c.loop-place-test.false in omega arith) c.loop-place.invariant
