use Rattle.std.proofs.Common.{◌≡◌, ◌++◌, take}
use Rattle.std.specs.List.{flat_map}
use Rattle.module_scope.specs.Mentions.{valued_mentions}
use Rattle.module_scope.proofs.items.push_valued.Given as goal

abbrev pub invariant-loop-valued : goal.invariant-loop-valued
invariant-loop-valued l = l.list ≡ l.initial.list ++ flat_map (valued_mentions l.net) (take l.valued-index l.names)
