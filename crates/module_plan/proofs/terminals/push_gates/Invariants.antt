use Rattle.std.proofs.Common.{◌≡◌, ◌++◌, take}
use Rattle.std.specs.List.{flat_map}
use Rattle.netlist_plan.specs.Plan.{expr_terminals}
use Rattle.module_plan.proofs.terminals.push_gates.Given as goal

abbrev pub invariant-loop-terms : goal.invariant-loop-terms
invariant-loop-terms l = l.list.items ≡ l.initial.list.items ++ flat_map (λ t. flat_map (expr_terminals l.scope l.nets) t.terminals) (take l.terms-index l.gates)
