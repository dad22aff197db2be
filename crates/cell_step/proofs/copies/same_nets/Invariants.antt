use Rattle.std.proofs.Common.{◌≡◌, ◌<◌, ℕ, get_or}
use Rattle.cell_step.specs.declared.states.NetState.{NetState}
use Rattle.cell_step.proofs.copies.same_nets.Given as goal

abbrev pub invariant-loop-place : goal.invariant-loop-place
invariant-loop-place l = (k : ℕ) (d : NetState) → k < l.place → get_or l.nets k d ≡ get_or l.others k d
