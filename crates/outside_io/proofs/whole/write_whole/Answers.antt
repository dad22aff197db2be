-- One more piece was written.
use Rattle.std.proofs.Common.{rules, arith}
use Rattle.std.proofs.lemmas.Grind.{common_steps}
use Rattle.outside_io.proofs.Told.{Gains-take-add}
use Rattle.outside_io.proofs.whole.write_whole.Goals as goal

pub loop-at-preserved : goal.loop-at-preserved
loop-at-preserved g c = record {
  within = search rules;
  quiet = search rules;
  gained = Gains-take-add _ _ _ _ _ _ _ (grind (arith, common_steps)) c.loop-at.invariant.gained c.in-Ok.ensures.appends;
}
