use Rattle.std.proofs.Common.{refl}
use Rattle.instance_rules.specs.Links.{ports_of}
use Rattle.instance_rules.proofs.Linking.{AreFirst-inst}
use Rattle.instance_rules.proofs.items.inst_places.Goals as goal

pub returns : goal.returns
returns c =
    let p = c.links_places.result in
    AreFirst-inst c.args.scope.now (ports_of c.args.tables.now c.args.counts.now c.args.master) c.args.inst.now p
    (record p { counts = c.count_place.result; connections = c.in_ok-connections.connections })
    (c.links_places.ensures c.args.counts.now) (c.count_place.ensures c.args.tables.now) (c.in_ok-connections.ensures c.args.counts.now)
    refl refl refl refl
