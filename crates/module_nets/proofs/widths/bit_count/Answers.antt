use Rattle.std.proofs.Common.{arith}
use Rattle.module_nets.proofs.Sources.{bit_count-more}
use Rattle.module_nets.proofs.widths.bit_count.Goals as goal

pub loop-net-preserved : goal.loop-net-preserved
loop-net-preserved c = record {
  value = omega (arith, bit_count-more c.args.scope.now c.args.nets.now c.loop-net.net-index c.net-item.result c.loop-net-test.true c.net-item.is, c.source_width.ensures, c.from-bits.ensures);
  room = omega arith;
}
