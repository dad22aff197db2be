use Rattle.std.proofs.Common.{◌≡◌, ◌++◌, take}
use Rattle.std.specs.List.{flat_map}
use Rattle.netlist_plan.specs.Plan.{expr_terminals}
use Rattle.module_plan.proofs.terminals.push_terms.Given as goal

abbrev pub invariant-loop-expr : goal.invariant-loop-expr
invariant-loop-expr l = l.list.items ≡ l.initial.list.items ++ flat_map (expr_terminals l.scope l.nets) (take l.expr-index l.exprs)
