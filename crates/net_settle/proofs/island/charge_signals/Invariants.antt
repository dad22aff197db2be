use Rattle.std.proofs.Common.{◌≡◌, ◌<◌, ℕ, get_or}
use Rattle.level_range.specs.declared.range.Kind.TheVariants.{Plain}
use Rattle.level_range.specs.Signal.{Signal}
use Rattle.level_range.specs.Combine.{join_of}
use Rattle.net_settle.specs.Charges.{contribution, signal_at}
use Rattle.net_settle.proofs.island.charge_signals.Given as goal

abbrev pub invariant-loop-net : goal.invariant-loop-net
invariant-loop-net l =
    (k : ℕ) (d : Signal) → k < l.net → get_or l.out k d
    ≡ join_of (get_or l.kinds k Plain) (signal_at l.own k) (contribution (get_or l.levels k 0) (signal_at l.charges k) (signal_at l.driven k))
