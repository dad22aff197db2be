use Rattle.std.proofs.Common.{◌≡◌, ◌+◌, ◌≤◌, ◌++◌, drop}
use Rattle.flattening.specs.Slots.{slot_numbers}
use Rattle.flattening.proofs.numbers.slot_numbers.Given as goal

abbrev pub invariant-loop-slot : goal.invariant-loop-slot
invariant-loop-slot l = record {
  value : l.numbers.items ++ slot_numbers l.next (drop l.slot-index l.slots) ≡ slot_numbers l.first l.slots;
  room : l.next ≤ l.first + l.slot-index;
}
