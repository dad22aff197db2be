use Rattle.std.specs.Prelude.{zip}
use Rattle.net_settle.proofs.Signals.{both_in_order}
use Rattle.net_settle.proofs.island.settle_both.Goals as goal

pub returns-clause-in_order : goal.returns-clause-in_order
returns-clause-in_order c =
    both_in_order (zip c.args.links.now c.args.on.now) c.args.own.now c.settle_bounds.new.bounds c.settle_bounds-2.new.bounds
    c.settle_bounds.ensures.signals c.settle_bounds.ensures.settled c.settle_bounds-2.ensures.settled
