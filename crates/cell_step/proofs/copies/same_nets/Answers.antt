use Rattle.std.proofs.Common.{refl, arith}
use Rattle.std.proofs.lemmas.List.{same_lists}
use Rattle.cell_step.proofs.copies.same_nets.Goals as goal

pub returns : goal.returns
returns c = (
  λ e. same_lists c.args.nets.now c.args.others.now (omega arith) (λ k d lt. c.loop-place.invariant k d (omega arith)),
  λ e. refl,
)
