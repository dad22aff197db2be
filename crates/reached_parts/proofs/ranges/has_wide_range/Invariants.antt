use Rattle.std.proofs.Common.{◌≡◌, false, take}
use Rattle.std.specs.List.{items_where_true, list_any}
use Rattle.netlist_meaning.specs.Limits.{has_wide}
use Rattle.reached_parts.proofs.ranges.has_wide_range.Given as goal

abbrev pub invariant-loop-i : goal.invariant-loop-i
invariant-loop-i l = list_any has_wide (items_where_true (take l.i l.reached) (take l.i l.modules)) ≡ false
