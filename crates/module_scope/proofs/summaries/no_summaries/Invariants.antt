use Rattle.std.proofs.Common.{◌≡◌, []}
use Rattle.module_scope.specs.Summaries.{summaries_of}
use Rattle.module_scope.proofs.summaries.no_summaries.Given as goal

abbrev pub invariant-loop : goal.invariant-loop
invariant-loop l = l.summaries.items ≡ summaries_of l.counter []
