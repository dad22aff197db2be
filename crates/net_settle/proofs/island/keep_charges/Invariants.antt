use Rattle.std.proofs.Common.{◌≡◌, ◌≢◌, ◌<◌, ◌≤◌, ℕ, get_or}
use Rattle.level_range.specs.Signal.{Signal}
use Rattle.net_settle.specs.Charges.{charge_left, signal_at}
use Rattle.net_settle.specs.Conditions.{IsCharge}
use Rattle.net_settle.proofs.island.keep_charges.Given as goal

abbrev pub invariant-loop-net : goal.invariant-loop-net
invariant-loop-net l =
    ((k : ℕ) (d : Signal) → k < l.net → get_or l.charges k d ≡ charge_left (get_or l.levels k 0) (signal_at l.initial.charges k) (signal_at l.signals k))
    × ((k : ℕ) (d : Signal) → l.net ≤ k → get_or l.charges k d ≡ get_or l.initial.charges k d)
    × ((k : ℕ) (d : Signal) → k < l.net → get_or l.levels k 0 ≢ 0 → IsCharge (get_or l.levels k 0) (get_or l.charges k d))
