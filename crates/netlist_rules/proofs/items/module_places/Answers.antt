use Rattle.std.proofs.Common.{List, ℕ, ap, ◌∙◌}
use Rattle.module_graph.specs.declared.references.Master.{Master}
use Rattle.gate_rules.specs.declared.places.GatePlaces.{GatePlaces}
use Rattle.gate_rules.specs.Places.{gate_places}
use Rattle.instance_rules.specs.declared.places.ItemPlaces.{ItemPlaces}
use Rattle.instance_rules.specs.Places.{Masters}
use Rattle.netlist_rules.specs.Walks.{joined_places}
use Rattle.netlist_rules.proofs.ItemLaws.{joined_first}
use Rattle.netlist_rules.proofs.items.module_places.Goals as goal

pub returns : goal.returns
returns c of are =
    let masters : Masters = record { of = of; tables = c.args.tables.now; counts = c.args.counts.now } in
    c.joined_places.ensures
    ∙ ap (λ (g : GatePlaces). joined_places g c.in_ok-instances.instances) c.gate_places-gates.ensures
    ∙ ap (λ (p : ItemPlaces). joined_places (gate_places c.args.scope.now c.args.module.now) p) (c.in_ok-instances.ensures of are)
    ∙ joined_first c.args.scope.now masters c.args.module.now
