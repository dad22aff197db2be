use Rattle.std.proofs.Common.{◌<◌, length, arith}
use Rattle.module_graph.proofs.SearchLaws.{Followed-none, Followed-more}
use Rattle.module_graph.proofs.reach.follow.Goals as goal

pub loop-reference-init : goal.loop-reference-init
loop-reference-init c = Followed-none c.args.search.now

pub loop-reference-preserved : goal.loop-reference-preserved
loop-reference-preserved c =
    let within : c.loop-reference.reference-index < length c.args.references.now = omega arith in
    Followed-more c.args.references.now c.loop-reference.reference-index _ c.args.search.now c.loop-reference.search c.find_master.new.search within c.loop-reference.invariant c.in_ok-find_master.ensures
