use Rattle.std.proofs.Common.{◌≡◌, map, take}
use Rattle.std.specs.List.{items_where_true}
use Rattle.primitive_rules.specs.Arguments.{arguments_of, primitive_of}
use Rattle.reached_parts.proofs.primitives.reached_primitives.Given as goal

abbrev pub invariant-loop-i : goal.invariant-loop-i
invariant-loop-i l = l.primitives.items ≡ map (λ u. primitive_of (arguments_of u)) (items_where_true (take l.i l.reached) (take l.i l.udps))
