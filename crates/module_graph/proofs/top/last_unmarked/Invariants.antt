use Rattle.std.proofs.Common.{◌≡◌, not}
use Rattle.module_graph.specs.Top.{is_instantiated, last_below}
use Rattle.module_graph.proofs.top.last_unmarked.Given as goal

abbrev pub invariant-loop-index : goal.invariant-loop-index
invariant-loop-index l = l.last ≡ last_below (λ k. not (is_instantiated l.references k)) l.index
