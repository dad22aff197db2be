use Rattle.std.proofs.Common.{◌≡◌, ◌++◌, take}
use Rattle.std.specs.List.{flat_map}
use Rattle.module_scope.specs.Mentions.{expr_mentions}
use Rattle.module_scope.proofs.expressions.push_exprs.Given as goal

abbrev pub invariant-loop-expr : goal.invariant-loop-expr
invariant-loop-expr l = l.list ≡ l.initial.list ++ flat_map (expr_mentions l.side) (take l.expr-index l.exprs)
