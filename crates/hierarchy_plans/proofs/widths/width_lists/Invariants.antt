use Rattle.std.proofs.Common.{◌≡◌, map, take}
use Rattle.std.specs.List.{zip}
use Rattle.hierarchy_plans.specs.Lists.{widths_if}
use Rattle.hierarchy_plans.proofs.widths.width_lists.Given as goal

abbrev pub invariant-loop-i : goal.invariant-loop-i
invariant-loop-i l = l.lists ≡ map (widths_if l.file) (zip (take l.i l.reached) (take l.i l.file.modules))
