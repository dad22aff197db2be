use Rattle.std.proofs.Common.{take}
use Rattle.module_graph.specs.Searches.{Followed}
use Rattle.module_graph.proofs.reach.follow.Given as goal

abbrev pub invariant-loop-reference : goal.invariant-loop-reference
invariant-loop-reference l = Followed (take l.reference-index l.references) l.initial.search l.search
