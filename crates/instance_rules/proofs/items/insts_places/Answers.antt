use Rattle.std.proofs.Common.{◌+◌, sym, subst}
use Rattle.std.specs.List.{flat_map}
use Rattle.instance_rules.specs.declared.places.ItemPlaces.{ItemPlaces}
use Rattle.instance_rules.specs.Items.{InstanceRule}
use Rattle.instance_rules.specs.Links.{ports_of}
use Rattle.instance_rules.specs.Walks.{inst_places}
use Rattle.instance_rules.proofs.Seeing.{IsSeen, IsSeen-step}
use Rattle.instance_rules.proofs.items.insts_places.Goals as goal

pub loop-inst-preserved : goal.loop-inst-preserved
loop-inst-preserved c =
    let places = λ (rule : InstanceRule). inst_places rule c.args.scope.now (ports_of c.args.tables.now c.args.counts.now c.args.master) in
    let all = c.args.instances.now in
    let whole = λ (rule : InstanceRule). flat_map (places rule) all in
    subst (λ (p : ItemPlaces). IsSeen places all whole (c.loop-inst.inst-index + 1) p) (sym c.earliest_places-places.ensures)
    (IsSeen-step places all whole c.loop-inst.inst-index c.loop-inst.places c.loop-inst.invariant
    c.inst-item.result c.in_ok-more.more c.loop-inst-test.true (sym c.inst-item.is) c.in_ok-more.ensures)
