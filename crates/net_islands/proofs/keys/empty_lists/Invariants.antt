use Rattle.std.proofs.Common.{◌≡◌, []}
use Rattle.std.specs.Prelude.{replicate}
use Rattle.net_islands.specs.Keys.{lists_in}
use Rattle.net_islands.proofs.keys.empty_lists.Given as goal

abbrev pub invariant-loop : goal.invariant-loop
invariant-loop g l = lists_in l.lists.items ≡ replicate l.counter []
