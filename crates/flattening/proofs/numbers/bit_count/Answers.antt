use Rattle.std.proofs.Common.{◌∙◌, arith}
use Rattle.netlist_plan.specs.Flattening.{bit_count}
use Rattle.flattening.proofs.ListSteps.{count_more}
use Rattle.flattening.proofs.numbers.bit_count.Goals as goal

pub loop-net-preserved : goal.loop-net-preserved
loop-net-preserved c = record {
  value = count_more c.args.nets.now c.loop-net.net-index c.loop-net.count (bit_count c.args.nets.now) c.loop-net.invariant.value c.net-item.result c.from-count.result
      c.loop-net-test.true c.net-item.is (c.from-count.ensures ∙ c.net_width.ensures.width);
  room = omega (arith, c.loop-net.invariant.room);
}
