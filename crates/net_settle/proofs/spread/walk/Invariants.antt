use Rattle.net_settle.proofs.Walking.{Walked}
use Rattle.net_settle.proofs.spread.walk.Given as goal

abbrev pub invariant-loop-passed : goal.invariant-loop-passed
invariant-loop-passed l = Walked l.side l.links l.on l.level l.backwards l.initial.bounds l.bounds l.changed l.passed
