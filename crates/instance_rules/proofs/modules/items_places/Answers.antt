use Rattle.std.proofs.Common.{◌+◌, sym, ap, subst, ◌∙◌, arith}
use Rattle.module_graph.specs.declared.references.Master.{Master}
use Rattle.instance_rules.specs.Items.{item_places}
use Rattle.instance_rules.specs.Links.{ports_of}
use Rattle.instance_rules.specs.Places.{Masters, instance_of}
use Rattle.instance_rules.specs.Walks.{AreFirst, earliest_places, master_at}
use Rattle.instance_rules.proofs.Walking.{instance_of-none, Walked-same, Walked-end, Walked-instance, Walked-other}
use Rattle.instance_rules.proofs.modules.items_places.Goals.{in-Instances+in_ok-more, in_default}
use Rattle.instance_rules.proofs.modules.items_places.Goals as goal

pub loop-item-preserved : goal.loop-item-preserved
loop-item-preserved c =
    let scope = c.args.scope.now in
    let references = c.args.references.now in
    let items = c.args.items.now in
    let next = c.loop-item.next in
    let index = c.loop-item.item-index in
    let places = c.loop-item.places in
    let item = c.item-item.result in
    let at = sym c.item-item.is in
    elim c.match-item.branch [
      | in-Instances+in_ok-more w ↦ record {
        within = omega (arith, w.next-is, c.loop-item.invariant.within);
        walked = λ of same.
            let masters : Masters = record { of = of; tables = c.args.tables.now; counts = c.args.counts.now } in
            let instance = w.in-Instances.instance in
            let more = w.in_ok-more.more in
            let first : AreFirst (λ rule. item_places rule scope (ports_of masters.tables masters.counts (master_at references next)) instance) more =
            subst (λ (m : Master). AreFirst (λ rule. item_places rule scope (ports_of masters.tables masters.counts m) instance) more) w.master_at-master.ensures w.in_ok-more.ensures in
            Walked-same scope masters references items (next + 1) c.match-item.next (index + 1) (earliest_places places more) c.match-item.places
            w.next-is (w.places-is ∙ w.earliest_places-places.ensures)
            (Walked-instance scope masters references items next index places (c.loop-item.invariant.walked of same) item c.loop-item-test.true at
            instance more (ap instance_of w.in-Instances.is) first);
      }
      | in_default w ↦ record {
        within = omega (arith, w.next-is, c.loop-item.invariant.within);
        walked = λ of same.
            let masters : Masters = record { of = of; tables = c.args.tables.now; counts = c.args.counts.now } in
            Walked-same scope masters references items next c.match-item.next (index + 1) places c.match-item.places w.next-is w.places-is
            (Walked-other scope masters references items next index places (c.loop-item.invariant.walked of same) item c.loop-item-test.true at
            (instance_of-none item w.in_default.not-Instances));
      }
    ]

pub returns : goal.returns
returns c = λ of same.
    let masters : Masters = record { of = of; tables = c.args.tables.now; counts = c.args.counts.now } in
    Walked-end c.args.scope.now masters c.args.references.now c.args.items.now c.loop-item.next c.loop-item.item-index c.loop-item.places
    (c.loop-item.invariant.walked of same) c.loop-item-test.false
