use Rattle.std.proofs.Common.{◌≡◌, ◌++◌, take}
use Rattle.flat_net.proofs.joints.push_links.Given as goal

abbrev pub invariant-loop-link : goal.invariant-loop-link
invariant-loop-link l = l.numbers.items ≡ l.initial.numbers.items ++ take l.link-index l.links
