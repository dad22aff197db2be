use Rattle.std.proofs.Common.{◌≡◌, map}
use Rattle.std.specs.List.{range_with_len}
use Rattle.netlist_meaning.specs.Plans.{number_among}
use Rattle.hierarchy_plans.proofs.numbers.primitive_numbers.Given as goal

abbrev pub invariant-loop-is_reached : goal.invariant-loop-is_reached
invariant-loop-is_reached l =
    (l.numbers.items ≡ map (number_among l.reached) (range_with_len 0 l.is_reached-index)) × (l.next ≡ number_among l.reached l.is_reached-index)
