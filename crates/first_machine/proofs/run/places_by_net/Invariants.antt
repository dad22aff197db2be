use Rattle.std.proofs.Common.{◌≡◌, ℕ, ◌<◌, length, get_or, None}
use Rattle.first_machine.specs.Places.{IsPlace}
use Rattle.first_machine.proofs.run.places_by_net.Given as goal

abbrev pub invariant-loop-k : goal.invariant-loop-k
invariant-loop-k l = record {
  size : length l.places.items ≡ l.count;
  places : (n : ℕ) → n < l.count → IsPlace l.listed l.k n (get_or l.places.items n None);
}
