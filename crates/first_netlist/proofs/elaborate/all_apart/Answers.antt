use Rattle.std.proofs.Common.{◌≡◌, true, false}
use Rattle.first_netlist.proofs.Apart.{numbers_meet, numbers_go_on}
use Rattle.first_netlist.proofs.elaborate.all_apart.Goals as goal

pub returns-then-not-branch : goal.returns-then-not-branch
returns-then-not-branch c =
    let old : c.in_ok-insert.field-0 ≡ false = cc in
    numbers_meet c.args.nets.now c.loop-net.seen.keys c.loop-net.net-index c.in_ok-insert.field-0 c.loop-net-test.true c.loop-net.invariant.0 c.in_ok-insert.ensures.added old

pub loop-net-preserved : goal.loop-net-preserved
loop-net-preserved c =
    let fresh : c.in_ok-insert.field-0 ≡ true = cc in
    numbers_go_on c.args.nets.now c.loop-net.seen.keys c.insert.new.self.keys c.loop-net.net-index c.in_ok-insert.field-0 c.loop-net-test.true c.loop-net.invariant.0 c.loop-net.invariant.1 c.in_ok-insert.ensures.added fresh c.in_ok-insert.ensures.keys
