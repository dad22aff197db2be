use Rattle.std.proofs.Common.{◌≡◌, ◌++◌, take}
use Rattle.std.specs.List.{flat_map}
use Rattle.flattening.specs.Spelled.{net_claims}
use Rattle.flattening.proofs.nets.push_all_claims.Given as goal

abbrev pub invariant-loop-net : goal.invariant-loop-net
invariant-loop-net l = l.claims.items ≡ l.initial.claims.items ++ flat_map (net_claims l.delays l.at) (take l.net-index l.nets)
