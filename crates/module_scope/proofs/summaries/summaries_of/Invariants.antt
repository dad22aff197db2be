use Rattle.std.proofs.Common.{◌≡◌, take}
use Rattle.module_scope.specs.Summaries.{summaries_of}
use Rattle.module_scope.proofs.summaries.summaries_of.Given as goal

abbrev pub invariant-loop-occurrence : goal.invariant-loop-occurrence
invariant-loop-occurrence l = l.summaries.items ≡ summaries_of l.count (take l.occurrence-index l.occurrences)
