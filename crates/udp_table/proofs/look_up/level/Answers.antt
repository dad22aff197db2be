use Rattle.std.proofs.Common.{◌≡◌, ◌∙◌, rules}
use Rattle.udp_table.specs.Primitive.{Agrees}
use Rattle.udp_table.specs.LookUp.{level_value}
use Rattle.udp_table.proofs.Order.{level_value-any, level_value-same}
use Rattle.udp_table.proofs.look_up.level.Goals as goal

pub returns-clause-any_row : goal.returns-clause-any_row
returns-clause-any_row c row here is =
    let own : c.value_or_x.result ≡ level_value c.args.udp.now.rows c.args.ins.now = search rules in
    let agrees : Agrees c.args.udp.now.rows = rw (← c.udp.view_is) c.udp.invariant.agrees in
    own ∙ level_value-any c.args.udp.now.rows agrees row c.args.ins.now here is

pub returns-clause-any_order : goal.returns-clause-any_order
returns-clause-any_order c rows same =
    let own : c.value_or_x.result ≡ level_value c.args.udp.now.rows c.args.ins.now = search rules in
    let agrees : Agrees c.args.udp.now.rows = rw (← c.udp.view_is) c.udp.invariant.agrees in
    own ∙ level_value-same c.args.udp.now.rows rows agrees same c.args.ins.now
