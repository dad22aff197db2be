use Rattle.std.proofs.Common.{◌≡◌, take}
use Rattle.module_graph.specs.Graph.{references_of}
use Rattle.module_graph.specs.Masters.{masters_under}
use Rattle.module_graph.proofs.masters.references_by.Given as goal

abbrev pub invariant-loop-module : goal.invariant-loop-module
invariant-loop-module l = l.lists.items ≡ references_of (masters_under l.masters) (take l.module-index l.modules)
