use Rattle.std.proofs.Common.{◌≡◌, length}
use Rattle.vector_text.specs.Binding.{input_fault}
use Rattle.vector_text.specs.Flags.{flags_of}
use Rattle.vector_text.proofs.NameLemmas.{HasListed}
use Rattle.vector_text.proofs.inputs.bound_inputs.Given as goal

abbrev pub invariant-loop-name : goal.invariant-loop-name
invariant-loop-name l = record {
  names : HasListed (input_fault l.flat.parts l.line) l.flat.parts l.name-index l.names l.bits.items;
  flags : l.listed.items ≡ flags_of l.bits.items (length l.flat.parts.nets);
}
