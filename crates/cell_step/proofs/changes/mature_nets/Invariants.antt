use Rattle.std.proofs.Common.{get_or}
use Rattle.cell_step.specs.Changes.{mature_net}
use Rattle.cell_step.specs.Islands.{no_state}
use Rattle.cell_step.proofs.Filling.{IsFilled}
use Rattle.cell_step.proofs.changes.mature_nets.Given as goal

-- the nets before this place have matured
abbrev pub invariant-loop-place : goal.invariant-loop-place
invariant-loop-place l = IsFilled (λ k. mature_net l.fn.now (get_or l.fn.nets k no_state)) no_state l.fn.nets l.nets l.place
