use Rattle.std.proofs.Common.{◌≡◌, take}
use Rattle.net_islands.specs.Islands.{drives}
use Rattle.net_islands.proofs.items.drives.Given as goal

abbrev pub invariant-loop-number : goal.invariant-loop-number
invariant-loop-number l = l.drives.items ≡ drives l.numbers l.places (take l.number l.elements)
