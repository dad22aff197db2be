use Rattle.std.proofs.Common.{◌≡◌, take}
use Rattle.flat_net.specs.Islands.{link_elements}
use Rattle.flat_net.proofs.joints.link_elements.Given as goal

abbrev pub invariant-loop-island : goal.invariant-loop-island
invariant-loop-island l = l.links.items ≡ link_elements (take l.island-index l.islands)
