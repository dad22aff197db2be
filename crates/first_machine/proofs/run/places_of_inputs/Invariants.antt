use Rattle.std.proofs.Common.{◌≡◌, map, take, get_or, None}
use Rattle.first_machine.proofs.run.places_of_inputs.Given as goal

abbrev pub invariant-loop-net : goal.invariant-loop-net
invariant-loop-net l = l.places.items ≡ map (λ n. get_or l.by_net n None) (take l.net-index l.inputs)
