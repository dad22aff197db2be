use Rattle.std.proofs.Common.{◌≡◌, ◌≤◌, ℕ, List, ◌++◌}
use Rattle.std.specs.List.{enumerate_from, flat_map}
use Rattle.module_graph.specs.declared.references.Master.{Master}
use Rattle.module_graph.specs.Graph.{references_in}
use Rattle.module_parts.specs.Parts.{parts_of_item}
use Rattle.module_parts.proofs.Walking.{Walked}
use Rattle.module_parts.proofs.modules.push_items.Given as goal

abbrev pub invariant-loop-index : goal.invariant-loop-index
invariant-loop-index l = record {
  within : l.next ≤ l.index;
  walked : (of : List ℕ → Master) → l.references ≡ references_in of l.items →
      Walked l.scope l.tables of l.references l.items l.next l.index l.parts
      (l.initial.parts ++ flat_map (parts_of_item l.scope l.tables of) (enumerate_from 0 l.items));
}
