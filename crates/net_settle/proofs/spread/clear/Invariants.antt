use Rattle.std.proofs.Common.{◌≡◌, ◌<◌, ℕ, pos, get_or}
use Rattle.level_range.specs.Signal.{Signal, IsSignal}
use Rattle.net_settle.specs.Bounds.{at}
use Rattle.net_settle.proofs.spread.clear.Given as goal

abbrev pub invariant-loop-net : goal.invariant-loop-net
invariant-loop-net l = (n : ℕ) (d : Signal) → n < l.net → (at l.bounds n ≡ pos 0) × IsSignal (get_or l.own n d)
