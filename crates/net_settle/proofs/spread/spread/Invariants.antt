use Rattle.std.specs.Prelude.{zip}
use Rattle.net_settle.specs.Progress.{Spreads, without}
use Rattle.net_settle.proofs.spread.spread.Given as goal

abbrev pub invariant-walks : goal.invariant-walks
invariant-walks l = Spreads l.side (zip l.links l.on) l.level l.initial.bounds l.bounds

abbrev pub decreases-walks : goal.decreases-walks
decreases-walks l = without l.bounds
