use Rattle.std.proofs.Common.{◌≡◌, ◌++◌, map, take}
use Rattle.module_parts.specs.Parts.{pair_part}
use Rattle.module_parts.proofs.assignments.push_pairs.Given as goal

abbrev pub invariant-loop-pair : goal.invariant-loop-pair
invariant-loop-pair l = l.parts ≡ l.initial.parts ++ map (pair_part l.scope l.item) (take l.pair-index l.pairs)
