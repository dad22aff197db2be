use Rattle.std.proofs.Common.{◌≡◌, ◌++◌, take}
use Rattle.std.specs.List.{flat_map}
use Rattle.flattening.specs.Spelled.{net_finds}
use Rattle.flattening.proofs.finds.push_all_finds.Given as goal

abbrev pub invariant-loop-net : goal.invariant-loop-net
invariant-loop-net l = l.finds.items ≡ l.initial.finds.items ++ flat_map (net_finds l.at) (take l.net-index l.nets)
