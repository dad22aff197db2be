use Rattle.std.proofs.Common.{◌≡◌, ◌<◌, ℕ, get_or}
use Rattle.level_range.specs.Signal.{Signal}
use Rattle.net_settle.specs.Bounds.{at}
use Rattle.net_settle.specs.Charges.{prefer_driven, signal_at}
use Rattle.net_settle.proofs.island.choose.Given as goal

abbrev pub invariant-loop-net : goal.invariant-loop-net
invariant-loop-net l =
    (k : ℕ) (d : Signal) → k < l.net → get_or l.out k d ≡ prefer_driven (signal_at l.driven k) (record { lo = at l.lower k; hi = at l.upper k })
