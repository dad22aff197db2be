use Rattle.std.proofs.Common.{◌≡◌, [], ◌∙◌, sym, rules}
use Rattle.udp_table.specs.Primitive.{Agrees}
use Rattle.udp_table.specs.LookUp.{state_after}
use Rattle.udp_table.proofs.Known.{state_after-known}
use Rattle.udp_table.proofs.Order.{state_after-same}
use Rattle.udp_table.proofs.look_up.after_changes.Goals as goal

pub returns-clause-any_order : goal.returns-clause-any_order
returns-clause-any_order c rows same =
    let own : c.apply_changes.result ≡ state_after c.args.udp.now.rows [] c.args.old.now c.args.new.now c.args.state = search rules in
    let agrees : Agrees c.args.udp.now.rows = rw (← c.udp.view_is) c.udp.invariant.agrees in
    own ∙ state_after-same c.args.udp.now.rows rows agrees same c.args.old.now c.args.new.now c.args.state

pub returns-clause-known : goal.returns-clause-known
returns-clause-known c e =
    let own : c.apply_changes.result ≡ state_after c.args.udp.now.rows [] c.args.old.now c.args.new.now c.args.state = search rules in
    state_after-known c.args.udp.now.rows [] c.args.old.now c.args.new.now c.args.state c.requires.state_known (sym own ∙ e)
