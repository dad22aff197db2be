use Rattle.std.proofs.Common.{◌≡◌, ◌<◌, ℕ, length, subst, sym, ◌∙◌, arith}
use Rattle.plain_sim.proofs.Places.{has-nets}
use Rattle.plain_sim.proofs.Keys.{net-more}
use Rattle.plain_sim.proofs.due.follow_nets.Goals as goal

pub follow_net-requires-clause-states : goal.follow_net-requires-clause-states
follow_net-requires-clause-states c = has-nets c.args.flat.now.parts c.net_count-net-end.ensures.sound.sound c.args.islands.now c.requires.islands

pub loop-net-preserved : goal.loop-net-preserved
loop-net-preserved c =
    let parts = c.args.flat.now.parts in
    let lt : c.loop-net.net < length parts.nets = (let e = c.net_count-net-end.ensures.count in let t = c.loop-net-test.true in omega arith) in
    record {
      times =
          net-more parts c.args.islands.now c.loop-net.due.times c.follow_net.new.due.times c.loop-net.net lt c.follow_net.ensures.times
          c.follow_net.ensures.others c.loop-net.invariant.times;
      elements = λ key less.
          c.follow_net.ensures.others key (λ e. omega arith) (λ e. omega arith) ∙ c.loop-net.invariant.elements key less;
      keys = c.follow_net.ensures.keys;
    }
