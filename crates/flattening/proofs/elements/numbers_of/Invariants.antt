use Rattle.std.proofs.Common.{◌≡◌, take}
use Rattle.netlist_plan.specs.Flattening.{numbers_of}
use Rattle.flattening.proofs.elements.numbers_of.Given as goal

abbrev pub invariant-loop-bit : goal.invariant-loop-bit
invariant-loop-bit l = l.nets.items ≡ numbers_of l.numbers (take l.bit-index l.bits)
