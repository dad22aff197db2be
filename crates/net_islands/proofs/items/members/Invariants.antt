use Rattle.std.proofs.Common.{◌≡◌, take}
use Rattle.net_islands.specs.Islands.{members}
use Rattle.net_islands.proofs.items.members.Given as goal

abbrev pub invariant-loop-net : goal.invariant-loop-net
invariant-loop-net l = l.members.items ≡ members (take l.net l.numbers) (take l.net l.nets)
