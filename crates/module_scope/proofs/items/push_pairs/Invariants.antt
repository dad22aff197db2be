use Rattle.std.proofs.Common.{◌≡◌, ◌++◌, take}
use Rattle.std.specs.List.{flat_map}
use Rattle.module_scope.specs.Mentions.{pair_mentions}
use Rattle.module_scope.proofs.items.push_pairs.Given as goal

abbrev pub invariant-loop-pair : goal.invariant-loop-pair
invariant-loop-pair l = l.list ≡ l.initial.list ++ flat_map pair_mentions (take l.pair-index l.pairs)
