use Rattle.std.proofs.Common.{take}
use Rattle.module_graph.specs.Marks.{AreMarked}
use Rattle.module_graph.specs.Reach.{refers_to}
use Rattle.module_graph.proofs.top.mark_list.Given as goal

abbrev pub invariant-loop-reference : goal.invariant-loop-reference
invariant-loop-reference l = AreMarked (λ k. refers_to k (take l.reference-index l.references)) l.initial.marks l.marks
