use Rattle.std.proofs.Common.{◌≡◌, ◌++◌, take}
use Rattle.module_scope.specs.Mentions.{names_mentions}
use Rattle.module_scope.proofs.headers.push_names.Given as goal

abbrev pub invariant-loop-name : goal.invariant-loop-name
invariant-loop-name l = l.list ≡ l.initial.list ++ names_mentions l.role (take l.name-index l.names)
