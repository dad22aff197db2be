use Rattle.std.proofs.Common.{get_or}
use Rattle.cell_step.specs.Nets.{net_start}
use Rattle.cell_step.specs.Islands.{no_state}
use Rattle.cell_step.proofs.Filling.{IsFilled}
use Rattle.cell_step.proofs.nets.start_nets.Given as goal

-- the nets before this place have their own start
abbrev pub invariant-loop-place : goal.invariant-loop-place
invariant-loop-place l =
    IsFilled (λ place. net_start (get_or l.levels place 0)) no_state l.initial.nets l.nets l.place
