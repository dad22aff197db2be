use Rattle.std.proofs.Common.{◌≡◌, ◌++◌, take, length, true}
use Rattle.flat_net.specs.Names.{nets_found}
use Rattle.vector_text.specs.Binding.{are_new}
use Rattle.vector_text.specs.Flags.{flags_of}
use Rattle.vector_text.proofs.inputs.list_bits.Given as goal

abbrev pub invariant-loop-at : goal.invariant-loop-at
invariant-loop-at l = record {
  pushed : l.bits.items ≡ l.fn.bits.items ++ take l.at (nets_found l.flat.parts.finds l.name);
  flags : l.listed ≡ flags_of l.bits.items (length l.flat.parts.nets);
  new : are_new l.fn.bits.items (take l.at (nets_found l.flat.parts.finds l.name)) ≡ true;
}
