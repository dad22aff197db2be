use Rattle.std.proofs.Common.{◌≡◌, length, map, take}
use Rattle.net_islands.specs.Leasts.{roots}
use Rattle.net_islands.proofs.leasts.island_numbers.Given as goal

abbrev pub invariant-loop-least : goal.invariant-loop-least
invariant-loop-least l = l.numbers.items ≡ map (λ net. length (roots l.leasts net)) (take l.least-index l.leasts)
