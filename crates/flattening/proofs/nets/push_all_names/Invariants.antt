use Rattle.std.proofs.Common.{◌≡◌, ◌++◌, take}
use Rattle.std.specs.List.{flat_map}
use Rattle.flattening.specs.Spelled.{new_names}
use Rattle.flattening.proofs.nets.push_all_names.Given as goal

abbrev pub invariant-loop-net : goal.invariant-loop-net
invariant-loop-net l = l.names.items ≡ l.initial.names.items ++ flat_map (new_names l.at) (take l.net-index l.nets)
