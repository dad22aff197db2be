use Rattle.std.proofs.Common.{◌≡◌, ◌++◌, take}
use Rattle.std.specs.List.{flat_map}
use Rattle.module_scope.specs.Mentions.{expr_mentions}
use Rattle.module_scope.proofs.expressions.«+push_expr».Given as goal

abbrev pub invariant-loop-part : goal.invariant-loop-part
invariant-loop-part l = l.list ≡ l.initial.list ++ flat_map (expr_mentions l.side) (take l.part-index l.part-items)
