use Rattle.std.proofs.Common.{◌≡◌, take, drop, []}
use Rattle.flat_net.specs.Tests.{are_new}
use Rattle.flat_net.proofs.sets.distinct_set.Given as goal

abbrev pub invariant-loop-element : goal.invariant-loop-element
invariant-loop-element g l = record {
  keys : l.set.keys ≡ take l.element-index l.elements;
  rest : are_new g.T.PartialEq.eq l.set.keys (drop l.element-index l.elements) ≡ are_new g.T.PartialEq.eq [] l.elements;
}
