use Rattle.std.proofs.Common.{ℕ, ◌+◌, map, take, ap, sym, ◌∙◌}
use Rattle.netlist_plan.specs.Plan.{plan_net}
use Rattle.netlist_plan.specs.Flattening.{bit_count}
use Rattle.plan_counts.proofs.NetLaws.{bits-more}
use Rattle.plan_counts.proofs.nets.plan_bits.Goals as goal

pub loop-net-preserved : goal.loop-net-preserved
loop-net-preserved c =
    c.in_ok-bits.ensures
    ∙ ap (λ (n : ℕ). n + c.net_bits.result) c.loop-net.invariant
    ∙ ap (λ (n : ℕ). bit_count (map (plan_net c.args.scope.now) (take c.loop-net.net-index c.args.nets.now)) + n) c.net_bits.ensures
    ∙ sym (bits-more c.args.scope.now c.args.nets.now c.loop-net.net-index c.net-item.result c.loop-net-test.true c.net-item.is)
