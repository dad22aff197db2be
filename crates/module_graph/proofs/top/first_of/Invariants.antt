use Rattle.std.proofs.Common.{◌≡◌, None, take}
use Rattle.name_table.specs.Names.{index_of}
use Rattle.module_graph.proofs.top.first_of.Given as goal

abbrev pub invariant-loop-index : goal.invariant-loop-index
invariant-loop-index l = index_of l.name (take l.index l.names) ≡ None
