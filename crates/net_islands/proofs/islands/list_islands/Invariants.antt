use Rattle.std.proofs.Common.{◌≡◌}
use Rattle.net_islands.specs.Keys.{lists_in}
use Rattle.net_islands.specs.Islands.{list_islands}
use Rattle.net_islands.proofs.islands.list_islands.Given as goal

abbrev pub invariant-loop-number : goal.invariant-loop-number
invariant-loop-number l = l.islands.items ≡ list_islands l.number (lists_in l.nets) (lists_in l.drives) (lists_in l.links)
