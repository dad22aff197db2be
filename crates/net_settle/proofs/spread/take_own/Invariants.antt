use Rattle.net_settle.specs.Bounds.{bounds_of}
use Rattle.net_settle.proofs.Taking.{OwnTaken}
use Rattle.net_settle.proofs.spread.take_own.Given as goal

abbrev pub invariant-loop-net : goal.invariant-loop-net
invariant-loop-net l = OwnTaken l.side l.level (bounds_of l.side l.own) l.initial.bounds l.bounds l.net
