use Rattle.std.proofs.Common.{◌≡◌, ◌≤◌, ℕ, List}
use Rattle.module_graph.specs.declared.references.Master.{Master}
use Rattle.module_graph.specs.Graph.{references_in}
use Rattle.instance_rules.proofs.Walking.{Walked}
use Rattle.instance_rules.proofs.modules.items_places.Given as goal

abbrev pub invariant-loop-item : goal.invariant-loop-item
invariant-loop-item l = record {
  within : l.next ≤ l.item-index;
  walked : (of : List ℕ → Master) → l.references ≡ references_in of l.items →
      Walked l.scope (record { of = of; tables = l.tables; counts = l.counts }) l.references l.items l.next l.item-index l.places;
}
