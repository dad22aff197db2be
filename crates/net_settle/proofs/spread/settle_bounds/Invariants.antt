use Rattle.std.proofs.Common.{◌*◌, ◌-◌}
use Rattle.std.specs.Prelude.{zip}
use Rattle.net_settle.specs.Bounds.{bounds_of}
use Rattle.net_settle.specs.Progress.{IsDone}
use Rattle.net_settle.proofs.spread.settle_bounds.Given as goal

abbrev pub invariant-loop-weaker : goal.invariant-loop-weaker
invariant-loop-weaker l = IsDone l.side (zip l.links l.on) (bounds_of l.side l.own) (2 * (7 - l.weaker)) l.bounds
