use Rattle.std.proofs.Common.{◌≡◌, take}
use Rattle.module_graph.specs.Graph.{module_names}
use Rattle.module_graph.proofs.graph.names_of.Given as goal

abbrev pub invariant-loop-module : goal.invariant-loop-module
invariant-loop-module l = l.names.items ≡ module_names (take l.module-index l.modules)
