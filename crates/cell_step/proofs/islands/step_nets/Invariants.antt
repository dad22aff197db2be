use Rattle.net_settle.specs.Charges.{signal_at}
use Rattle.cell_step.specs.Nets.{next_net}
use Rattle.cell_step.specs.Islands.{no_state, state_at, part_at}
use Rattle.cell_step.proofs.Filling.{IsFilled}
use Rattle.cell_step.proofs.islands.step_nets.Given as goal

-- the nets before this place have settled
abbrev pub invariant-loop-place : goal.invariant-loop-place
invariant-loop-place l =
    IsFilled
    (λ place. next_net (part_at l.flat.parts l.island place) l.now (signal_at l.driven place) (signal_at l.signals place)
    (signal_at l.charges place) (state_at l.fn.nets place))
    no_state l.fn.nets l.nets l.place
