use Rattle.std.proofs.Common.{◌||◌, not, Option, [], take, drop, ◌+◌, slice_index_or, sym, ap, ◌∙◌}
use Rattle.v_tree.specs.declared.locations.Location.{Location}
use Rattle.rule_places.specs.Places.{earliest, first_place}
use Rattle.instance_rules.specs.Rules.{named_places}
use Rattle.instance_rules.proofs.Naming.{is_wrong-found, named_places-step, names-step, ports_named}
use Rattle.instance_rules.proofs.connections.named_place.Goals as goal

pub loop-connection-preserved : goal.loop-connection-preserved
loop-connection-preserved c =
    let i = c.loop-connection.connection-index in
    let all = c.args.connections.now in
    let connection = c.connection-item.result in
    let name = c.as_slice-name.result.now in
    let ports = slice_index_or c.args.tables.now c.args.«module» [] in
    let before = ports_named (take i all) in
    let wrong = not c.has_port-has_port.result || not c.in_ok-is_new.is_new in
    let lt = c.loop-connection-test.true in
    let at = sym c.connection-item.is in
    record {
      names = λ q. names-step q name c.loop-connection.names c.add.new.self c.in_ok-is_new.is_new all i connection lt at c.as_slice-name.ensures
          c.in_ok-is_new.ensures.new c.in_ok-is_new.ensures.names (c.loop-connection.invariant.names q);
      first =
          c.loop-connection.invariant.first
          ∙ named_places-step ports all i connection lt at c.loop-connection.place wrong
          (is_wrong-found ports before c.loop-connection.names name connection.port.text c.has_port-has_port.result c.in_ok-is_new.is_new
          c.as_slice-name.ensures c.has_port-has_port.ensures c.in_ok-is_new.ensures.new (c.loop-connection.invariant.names name))
          ∙ ap (λ (place : Option Location). earliest place (first_place (named_places ports (ports_named (take (i + 1) all)) (drop (i + 1) all))))
          (sym c.place_more-place.ensures);
    }
