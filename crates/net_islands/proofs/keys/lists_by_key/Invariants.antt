use Rattle.std.proofs.Common.{◌≡◌, take}
use Rattle.net_islands.specs.Keys.{lists_in, lists_by_key}
use Rattle.net_islands.proofs.keys.lists_by_key.Given as goal

abbrev pub invariant-loop-key : goal.invariant-loop-key
invariant-loop-key g l = lists_in l.lists.items ≡ lists_by_key l.count (take l.key-index l.items)
