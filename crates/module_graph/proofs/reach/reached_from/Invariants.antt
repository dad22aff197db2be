use Rattle.module_graph.specs.Searches.{IsSearch, work_left}
use Rattle.module_graph.proofs.reach.reached_from.Given as goal

abbrev pub invariant-loop-module : goal.invariant-loop-module
invariant-loop-module l = IsSearch l.references l.top l.search

abbrev pub decreases-loop-module : goal.decreases-loop-module
decreases-loop-module l = work_left l.search
