use Rattle.std.proofs.Common.{◌≡◌, ◌≤◌, ℕ, List}
use Rattle.module_graph.specs.declared.references.Master.{Master}
use Rattle.module_graph.specs.Graph.{references_in}
use Rattle.module_plan.proofs.References.{Walked}
use Rattle.module_plan.proofs.forms.item_forms.Given as goal

abbrev pub invariant-loop-item : goal.invariant-loop-item
invariant-loop-item l = record {
  within : l.next ≤ l.item-index;
  walked : (of : List ℕ → Master) → l.references ≡ references_in of l.items → Walked of l.references l.udp_numbers l.items l.next l.item-index l.forms.items;
}
