use Rattle.std.proofs.Common.{◌≡◌, map, take}
use Rattle.first_machine.specs.Places.{placed_value}
use Rattle.first_machine.proofs.force.force.Given as goal

abbrev pub invariant-loop-k : goal.invariant-loop-k
invariant-loop-k l = take l.k l.forced ≡ map (placed_value l.values) (take l.k l.places)
