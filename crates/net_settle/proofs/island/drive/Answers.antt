use Rattle.std.proofs.Common.{length, arith}
use Rattle.level_range.specs.Signal.{undriven}
use Rattle.net_settle.proofs.Listed.{signals_between-all}
use Rattle.net_settle.proofs.island.drive.Goals as goal

pub returns : goal.returns
returns c =
    signals_between-all c.args.lower.now c.args.upper.now (length c.args.driven.now) c.loop-net.driven c.loop-net.auto.driven
    (λ n lt. c.loop-net.invariant n undriven (omega arith))
