use Rattle.std.proofs.Common.{◌≡◌, map, take}
use Rattle.std.specs.List.{range_with_len}
use Rattle.netlist_plan.specs.Flattening.{number_outside}
use Rattle.flattening.proofs.numbers.slots_of.Given as goal

abbrev pub invariant-loop-bit : goal.invariant-loop-bit
invariant-loop-bit l = l.slots.items ≡ map (number_outside (take l.bit-index l.outside)) (range_with_len 0 l.count)
