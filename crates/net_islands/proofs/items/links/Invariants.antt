use Rattle.std.proofs.Common.{◌≡◌, take}
use Rattle.net_islands.specs.Islands.{links}
use Rattle.net_islands.proofs.items.links.Given as goal

abbrev pub invariant-loop-number : goal.invariant-loop-number
invariant-loop-number l = l.links.items ≡ links l.numbers l.places (take l.number l.elements) l.resistive
