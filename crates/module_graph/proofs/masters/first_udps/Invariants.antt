use Rattle.std.proofs.Common.{map, take}
use Rattle.module_graph.specs.Numbers.{IsWhole}
use Rattle.module_graph.specs.Masters.{HasIndexes}
use Rattle.module_graph.proofs.masters.first_udps.Given as goal

abbrev pub invariant-loop-index : goal.invariant-loop-index
invariant-loop-index l = record {
  whole : IsWhole l.table;
  indexes : HasIndexes (map (λ x. x.name.text) (take l.index l.udps)) l.table;
}
