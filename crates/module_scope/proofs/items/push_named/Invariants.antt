use Rattle.std.proofs.Common.{◌≡◌, ◌++◌, take}
use Rattle.std.specs.List.{flat_map}
use Rattle.module_scope.specs.Mentions.{connection_mentions}
use Rattle.module_scope.proofs.items.push_named.Given as goal

abbrev pub invariant-loop-connection : goal.invariant-loop-connection
invariant-loop-connection l = l.list ≡ l.initial.list ++ flat_map connection_mentions (take l.connection-index l.connections)
