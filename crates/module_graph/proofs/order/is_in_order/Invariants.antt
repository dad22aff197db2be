use Rattle.std.proofs.Common.{◌≡◌, drop}
use Rattle.std.specs.List.{list_all, enumerate_from}
use Rattle.module_graph.specs.Order.{is_list_in_order, is_in_order}
use Rattle.module_graph.proofs.order.is_in_order.Given as goal

abbrev pub invariant-loop-module : goal.invariant-loop-module
invariant-loop-module l =
    is_in_order l.positions l.reached l.references ≡ list_all (is_list_in_order l.positions l.reached) (enumerate_from l.module (drop l.module l.references))
