use Rattle.std.proofs.Common.{◌≡◌, ◌++◌, drop}
use Rattle.module_scope.specs.Mentions.{items_mentions}
use Rattle.module_scope.proofs.items.push_items.Given as goal

abbrev pub invariant-loop-index : goal.invariant-loop-index
invariant-loop-index l = l.list ++ items_mentions l.index (drop l.index l.items) ≡ l.initial.list ++ items_mentions 0 l.items
