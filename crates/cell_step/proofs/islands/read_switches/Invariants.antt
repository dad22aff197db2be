use Rattle.std.proofs.Common.{get_or}
use Rattle.level_range.specs.declared.range.Conduct.TheVariants.{Off}
use Rattle.cell_step.proofs.Filling.{IsFilled}
use Rattle.cell_step.proofs.islands.read_switches.Given as goal

-- the switches before this one have been read
abbrev pub invariant-loop-k : goal.invariant-loop-k
invariant-loop-k g l = IsFilled (λ k. (g.V.View.readings l.view).conduct (get_or l.links k 0)) Off l.fn.on l.on l.k
