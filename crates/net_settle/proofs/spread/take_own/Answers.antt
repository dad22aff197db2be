use Rattle.std.proofs.Common.{◌≡◌, ◌<◌, ◌+◌, length, sym, ap, subst, ◌∙◌, arith}
use Rattle.net_settle.specs.Bounds.{at, bounds_of, bound_of}
use Rattle.net_settle.proofs.Taking.{OwnTaken, own_taken_more, at-bounds_of}
use Rattle.net_settle.proofs.spread.take_own.Goals as goal

pub loop-net-preserved : goal.loop-net-preserved
loop-net-preserved c =
    let own = bounds_of c.args.side c.args.own.now in
    let inside : c.loop-net.net < length c.args.own.now = omega arith in
    let is : c.bound.result ≡ at own c.loop-net.net =
    c.bound.ensures.value ∙ ap (bound_of c.args.side) c.index-own-net.is
    ∙ sym (at-bounds_of c.args.side c.args.own.now c.loop-net.net c.index-own-net.result inside) in
    subst (λ b. OwnTaken c.args.side c.args.level own c.args.bounds.now b (c.loop-net.net + 1)) (sym c.take.ensures.bounds)
    (own_taken_more c.args.side c.args.level own c.args.bounds.now c.loop-net.bounds c.loop-net.net c.bound.result
    c.requires.some (omega arith) is c.loop-net.invariant)
