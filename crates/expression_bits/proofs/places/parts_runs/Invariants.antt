use Rattle.std.proofs.Common.{◌≡◌, take}
use Rattle.std.specs.List.{flat_map}
use Rattle.expression_bits.specs.Runs.{part_runs}
use Rattle.expression_bits.proofs.places.parts_runs.Given as goal

abbrev pub invariant-loop-part : goal.invariant-loop-part
invariant-loop-part l = l.runs ≡ flat_map part_runs (take l.part-index l.parts)
