use Rattle.std.proofs.Common.{◌≡◌, map, take}
use Rattle.std.specs.List.{zip}
use Rattle.hierarchy_plans.specs.Lists.{parts_if}
use Rattle.hierarchy_plans.proofs.parts.part_lists.Given as goal

abbrev pub invariant-loop-i : goal.invariant-loop-i
invariant-loop-i l = l.lists ≡ map (parts_if l.file) (zip (take l.i l.reached) (take l.i l.modules))
