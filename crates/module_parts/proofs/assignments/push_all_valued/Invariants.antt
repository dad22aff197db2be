use Rattle.std.proofs.Common.{◌≡◌, ◌++◌, take}
use Rattle.std.specs.List.{flat_map}
use Rattle.module_parts.specs.Parts.{valued_parts}
use Rattle.module_parts.proofs.assignments.push_all_valued.Given as goal

abbrev pub invariant-loop-valued : goal.invariant-loop-valued
invariant-loop-valued l = l.parts ≡ l.initial.parts ++ flat_map (valued_parts l.scope l.item) (take l.valued-index l.names)
