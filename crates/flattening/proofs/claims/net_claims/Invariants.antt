use Rattle.std.proofs.Common.{◌≡◌, map, take}
use Rattle.std.specs.List.{range_with_len}
use Rattle.netlist_plan.specs.Claims.{claim_on}
use Rattle.flattening.proofs.claims.net_claims.Given as goal

abbrev pub invariant-loop-net : goal.invariant-loop-net
invariant-loop-net l = l.table.items ≡ map (claim_on (take l.net-index l.claims)) (range_with_len 0 l.count)
