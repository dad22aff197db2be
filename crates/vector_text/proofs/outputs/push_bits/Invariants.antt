use Rattle.std.proofs.Common.{◌≡◌, ◌≤◌, ◌++◌, take, length}
use Rattle.flat_net.specs.Names.{nets_found}
use Rattle.vector_text.proofs.outputs.push_bits.Given as goal

abbrev pub invariant-loop-at : goal.invariant-loop-at
invariant-loop-at l = record {
  pushed : l.outputs.items ≡ l.fn.outputs.items ++ take l.at (nets_found l.flat.parts.finds l.name);
  inside : l.at ≤ length (nets_found l.flat.parts.finds l.name);
  few : length l.outputs.items ≤ 1048576;
}
