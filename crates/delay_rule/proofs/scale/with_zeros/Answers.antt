use Rattle.std.proofs.Common.{ℕ, ◌*◌, min, ap, ◌∙◌}
use Rattle.delay_rule.proofs.TickLemmas.{one_zero}
use Rattle.delay_rule.proofs.scale.with_zeros.Goals as goal

pub loop-zeros-preserved : goal.loop-zeros-preserved
loop-zeros-preserved c = c.cap-value.ensures ∙ ap (λ (v : ℕ). min (10 * v) 2147483648) c.loop-zeros.invariant ∙ one_zero 2147483648 c.args.number c.loop-zeros._zeros
