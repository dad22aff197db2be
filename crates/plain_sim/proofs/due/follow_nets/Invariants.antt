use Rattle.std.proofs.Common.{◌≡◌, ◌<◌, ℕ, length}
use Rattle.std.specs.FinMap.{get}
use Rattle.plain_sim.specs.Due.{HasKeyRoom, HasNetTimes, key_count}
use Rattle.plain_sim.proofs.due.follow_nets.Given as goal

-- the nets before this one have their times, and the elements are as before
abbrev pub invariant-loop-net : goal.invariant-loop-net
invariant-loop-net l = record {
  times : (k : ℕ) → k < l.net → HasNetTimes l.flat.parts l.islands l.due.times k;
  elements : (key : ℕ) → key < length l.flat.parts.elements → get l.due.times key ≡ get l.fn.due.times key;
  keys : HasKeyRoom (key_count l.flat.parts) l.due;
}
