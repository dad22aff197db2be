use Rattle.std.proofs.Common.{ℕ, ◌+◌, sym, subst}
use Rattle.std.specs.List.{enumerate_from, flat_map}
use Rattle.v_tree.specs.declared.gates.Connection.{Connection}
use Rattle.instance_rules.specs.declared.places.ItemPlaces.{ItemPlaces}
use Rattle.instance_rules.specs.Items.{InstanceRule}
use Rattle.instance_rules.specs.Links.{named_link, ports_of}
use Rattle.instance_rules.specs.Walks.{link_places, links_places}
use Rattle.instance_rules.proofs.Seeing.{IsSeenFrom, IsSeenFrom-start, IsSeenFrom-step, flat_map-flat_map}
use Rattle.instance_rules.proofs.links.connections_places.Goals as goal

pub loop-index-init : goal.loop-index-init
loop-index-init c = λ counts.
    let scope = c.args.scope.now in
    let ports = ports_of c.args.tables.now counts c.args.master in
    let all = c.args.connections.now in
    IsSeenFrom-start (λ rule connection. links_places rule scope ports ((named_link ports) connection)) all
    (λ rule. links_places rule scope ports (flat_map (named_link ports) (enumerate_from 0 all)))
    c.no_places-places.result c.no_places-places.ensures
    (λ rule. flat_map-flat_map (link_places rule scope ports) (named_link ports) (enumerate_from 0 all))

pub loop-index-preserved : goal.loop-index-preserved
loop-index-preserved c = λ counts.
    let scope = c.args.scope.now in
    let ports = ports_of c.args.tables.now counts c.args.master in
    let all = c.args.connections.now in
    let places = λ (rule : InstanceRule) (connection : ℕ × Connection). links_places rule scope ports ((named_link ports) connection) in
    let whole = λ (rule : InstanceRule). links_places rule scope ports (flat_map (named_link ports) (enumerate_from 0 all)) in
    subst (λ (p : ItemPlaces). IsSeenFrom places all whole (c.loop-index.index + 1) p) (sym c.earliest_places-places.ensures)
    (IsSeenFrom-step places all whole c.loop-index.index c.loop-index.places (c.loop-index.invariant counts)
    c.index-connections-index.result c.connection_places-more.result c.loop-index-test.true (sym c.index-connections-index.is) (c.connection_places-more.ensures counts))
