use Rattle.std.proofs.Common.{take}
use Rattle.module_graph.specs.Marks.{AreMarked}
use Rattle.module_graph.specs.Top.{is_instantiated}
use Rattle.module_graph.proofs.top.mark_all.Given as goal

abbrev pub invariant-loop-list : goal.invariant-loop-list
invariant-loop-list l = AreMarked (λ k. is_instantiated (take l.list-index l.references) k) l.initial.marks l.marks
