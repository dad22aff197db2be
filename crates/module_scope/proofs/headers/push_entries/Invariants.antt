use Rattle.std.proofs.Common.{◌≡◌, ◌++◌, drop}
use Rattle.module_scope.specs.Mentions.{entries_mentions}
use Rattle.module_scope.proofs.headers.push_entries.Given as goal

abbrev pub invariant-loop-entry : goal.invariant-loop-entry
invariant-loop-entry l = l.list ++ entries_mentions l.port (drop l.entry-index l.entries) ≡ l.initial.list ++ entries_mentions l.initial.port l.entries
