use Rattle.std.proofs.Common.{◌≡◌, map, take}
use Rattle.std.specs.List.{items_where_true, list_any}
use Rattle.netlist_meaning.specs.Delays.{has_long, module_delays}
use Rattle.item_delays.proofs.delays.item_delays.Given as goal

abbrev pub invariant-loop-i : goal.invariant-loop-i
invariant-loop-i l = record {
  delays : l.by_module ≡ map (module_delays l.choice l.file.directives) (take l.i l.modules);
  is_long : l.is_long ≡ list_any (has_long l.choice l.file.directives) (items_where_true (take l.i l.reached) (take l.i l.modules));
}
