use Rattle.std.proofs.Common.{refl, arith}
use Rattle.flattening.proofs.ListSteps.{pairs_more, pairs_all}
use Rattle.flattening.proofs.connections.push_pairs.Goals as goal

pub loop-index-preserved : goal.loop-index-preserved
loop-index-preserved c =
    pairs_more c.args.first.now c.args.second.now c.loop-index.index c.args.pairs.now.items c.loop-index.pairs.items c.loop-index.invariant
    _ _ c.push.new.self.items (omega arith) refl refl c.in_ok-push.ensures.items

pub returns : goal.returns
returns c =
    pairs_all c.args.first.now c.args.second.now c.loop-index.index c.args.pairs.now.items c.loop-index.pairs.items c.loop-index.invariant (omega arith)
