use Rattle.std.specs.Prelude.{slice_index_or}
use Rattle.level_range.specs.Signal.{undriven}
use Rattle.net_settle.specs.Charges.{signal_at}
use Rattle.flat_net.specs.declared.kinds.Patch.TheVariants.{NetStuck}
use Rattle.cell_step.specs.Islands.{net_stuck, unless_stuck}
use Rattle.cell_step.proofs.Filling.{IsFilled}
use Rattle.cell_step.proofs.islands.stick_net.Given as goal

-- the nets before this place have their signals or are stuck
abbrev pub invariant-loop-place : goal.invariant-loop-place
invariant-loop-place l =
    IsFilled
    (λ place. unless_stuck (net_stuck (NetStuck l.stuck l.value) (slice_index_or l.nets place 0)) (signal_at l.fn.own place))
    undriven l.fn.own l.own l.place
