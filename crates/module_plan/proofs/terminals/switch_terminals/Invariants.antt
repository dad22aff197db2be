use Rattle.std.proofs.Common.{◌≡◌, ◌++◌, take}
use Rattle.std.specs.List.{flat_map}
use Rattle.netlist_plan.specs.Plan.{item_terminals}
use Rattle.module_plan.proofs.terminals.switch_terminals.Given as goal

abbrev pub invariant-loop-item : goal.invariant-loop-item
invariant-loop-item l = l.list.items ≡ flat_map (item_terminals l.scope l.nets) (take l.item-index l.items)
