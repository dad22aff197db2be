use Rattle.std.proofs.Common.{◌≡◌, ◌<◌, ℕ}
use Rattle.std.specs.FinMap.{get}
use Rattle.plain_sim.specs.Due.{HasKeyRoom, key_count, element_time}
use Rattle.plain_sim.proofs.due.follow_elements.Given as goal

-- the elements before this one have their times
abbrev pub invariant-loop-number : goal.invariant-loop-number
invariant-loop-number l = record {
  times : (k : ℕ) → k < l.number → get l.due.times k ≡ element_time l.elements k;
  keys : HasKeyRoom (key_count l.flat.parts) l.due;
}
