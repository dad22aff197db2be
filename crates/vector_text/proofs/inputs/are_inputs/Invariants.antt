use Rattle.std.proofs.Common.{◌≡◌, true, take}
use Rattle.std.specs.List.{list_all}
use Rattle.flat_net.specs.Names.{nets_found}
use Rattle.vector_text.specs.Binding.{is_net_among}
use Rattle.vector_text.proofs.inputs.are_inputs.Given as goal

abbrev pub invariant-loop-at : goal.invariant-loop-at
invariant-loop-at l = list_all (is_net_among l.flat.parts.inputs) (take l.at (nets_found l.flat.parts.finds l.name)) ≡ true
