use Rattle.std.proofs.Common.{◌≡◌, ◌++◌, take}
use Rattle.std.specs.List.{flat_map}
use Rattle.module_parts.specs.Parts.{target_runs}
use Rattle.module_parts.proofs.assignments.«+push_target».Given as goal

abbrev pub invariant-loop-part : goal.invariant-loop-part
invariant-loop-part l = l.runs ≡ l.initial.runs ++ flat_map target_runs (take l.part-index l.part-items)
