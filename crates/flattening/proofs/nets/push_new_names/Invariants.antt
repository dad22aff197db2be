use Rattle.std.proofs.Common.{◌≡◌, ◌++◌}
use Rattle.std.specs.List.{flat_map, range_with_len}
use Rattle.flattening.specs.Spelled.{new_name}
use Rattle.flattening.proofs.nets.push_new_names.Given as goal

abbrev pub invariant-loop-place : goal.invariant-loop-place
invariant-loop-place l = l.names.items ≡ l.initial.names.items ++ flat_map (new_name l.at l.net) (range_with_len 0 l.place)
