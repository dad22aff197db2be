use Rattle.std.proofs.Common.{◌≡◌, map, take}
use Rattle.first_machine.specs.Shown.{logic_at}
use Rattle.first_machine.proofs.phases.target_of.Given as goal

abbrev pub invariant-loop-net : goal.invariant-loop-net
invariant-loop-net l = l.pins.items ≡ map (logic_at l.seen) (take l.net-index l.net-items)
