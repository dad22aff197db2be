use Rattle.std.proofs.Common.{◌≡◌, take}
use Rattle.module_graph.specs.Graph.{references_in}
use Rattle.module_graph.specs.Masters.{masters_under}
use Rattle.module_graph.proofs.masters.references_in.Given as goal

abbrev pub invariant-loop-item : goal.invariant-loop-item
invariant-loop-item l = l.list.items ≡ references_in (masters_under l.masters) (take l.item-index l.items)
