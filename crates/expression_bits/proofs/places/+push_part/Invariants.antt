use Rattle.std.proofs.Common.{◌≡◌, ◌++◌, take}
use Rattle.std.specs.List.{flat_map}
use Rattle.expression_bits.specs.Runs.{part_runs}
use Rattle.expression_bits.proofs.places.«+push_part».Given as goal

abbrev pub invariant-loop-inner : goal.invariant-loop-inner
invariant-loop-inner l = l.runs ≡ l.initial.runs ++ flat_map part_runs (take l.inner-index l.inner-items)
