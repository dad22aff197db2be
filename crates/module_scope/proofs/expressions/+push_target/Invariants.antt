use Rattle.std.proofs.Common.{◌≡◌, ◌++◌, take}
use Rattle.std.specs.List.{flat_map}
use Rattle.module_scope.specs.Mentions.{target_mentions}
use Rattle.module_scope.proofs.expressions.«+push_target».Given as goal

abbrev pub invariant-loop-part : goal.invariant-loop-part
invariant-loop-part l = l.list ≡ l.initial.list ++ flat_map target_mentions (take l.part-index l.part-items)
