use Rattle.std.proofs.Common.{◌≡◌, ◌≢◌, length, List, sym, ap, subst, arith}
use Rattle.std.specs.Prelude.{ℤ, pos, zip}
use Rattle.net_settle.specs.Bounds.{at, bounds_of, carried_bound}
use Rattle.net_settle.proofs.Taking.{spreads-then}
use Rattle.net_settle.proofs.Walks.{finishes}
use Rattle.net_settle.proofs.spread.spread.Goals as goal

pub walks-preserved : goal.walks-preserved
walks-preserved c =
    spreads-then c.args.side (zip c.args.links.now c.args.on.now) c.args.level c.take_own.new.bounds c.walks.bounds c.walk.new.bounds
    c.walks.invariant c.walk.ensures.spreads

pub returns : goal.returns
returns c =
    let switches = zip c.args.links.now c.args.on.now in
    let own = bounds_of c.args.side c.args.own.now in
    let moves = c.walks-test.ensures.moves in
    let all = spreads-then c.args.side switches c.args.level c.take_own.new.bounds c.walks.bounds c.walk.new.bounds
    c.walks.invariant c.walk.ensures.spreads in
    record {
      finishes = λ r level done.
          let first = c.take_own.ensures.spreads switches r level done in
          let last = all.keeps own r level first in
          finishes c.args.side switches own r c.walk.new.bounds c.args.level last level
          record {
            owned = λ n lt none.
                c.take_own.ensures.rests n (let e = first.nets in omega arith) (all.grows n none);
            brought = λ link conduct m n there joins lt none.
                subst (λ (b : List ℤ). at b n ≡ pos 0 → carried_bound c.args.side link conduct (at b m) ≢ c.args.level) (sym moves.0)
                (moves.1 link conduct there m n joins (let e = last.nets in let f = ap length moves.0 in omega arith)) none;
          };
    }
