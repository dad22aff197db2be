use Rattle.std.proofs.Common.{ℕ, ◌+◌, Option, sym, subst}
use Rattle.std.specs.List.{enumerate_from, flat_map}
use Rattle.v_tree.specs.declared.expressions.Expr.{Expr}
use Rattle.instance_rules.specs.declared.places.ItemPlaces.{ItemPlaces}
use Rattle.instance_rules.specs.Items.{InstanceRule}
use Rattle.instance_rules.specs.Links.{ordered_link, ports_of}
use Rattle.instance_rules.specs.Walks.{link_places, links_places}
use Rattle.instance_rules.proofs.Seeing.{IsSeenFrom, IsSeenFrom-start, IsSeenFrom-step, flat_map-flat_map}
use Rattle.instance_rules.proofs.links.values_places.Goals as goal

pub loop-index-init : goal.loop-index-init
loop-index-init c = λ counts.
    let scope = c.args.scope.now in
    let ports = ports_of c.args.tables.now counts c.args.master in
    let all = c.args.values.now in
    IsSeenFrom-start (λ rule value. links_places rule scope ports (ordered_link value)) all
    (λ rule. links_places rule scope ports (flat_map ordered_link (enumerate_from 0 all)))
    c.no_places-places.result c.no_places-places.ensures
    (λ rule. flat_map-flat_map (link_places rule scope ports) ordered_link (enumerate_from 0 all))

pub loop-index-preserved : goal.loop-index-preserved
loop-index-preserved c = λ counts.
    let scope = c.args.scope.now in
    let ports = ports_of c.args.tables.now counts c.args.master in
    let all = c.args.values.now in
    let places = λ (rule : InstanceRule) (value : ℕ × Option Expr). links_places rule scope ports (ordered_link value) in
    let whole = λ (rule : InstanceRule). links_places rule scope ports (flat_map ordered_link (enumerate_from 0 all)) in
    subst (λ (p : ItemPlaces). IsSeenFrom places all whole (c.loop-index.index + 1) p) (sym c.earliest_places-places.ensures)
    (IsSeenFrom-step places all whole c.loop-index.index c.loop-index.places (c.loop-index.invariant counts)
    c.index-values-index.result c.value_places-more.result c.loop-index-test.true (sym c.index-values-index.is) (c.value_places-more.ensures counts))
