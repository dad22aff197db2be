use Rattle.std.proofs.Common.{◌≤◌, length}
use Rattle.vector_text.specs.Binding.{output_fault}
use Rattle.vector_text.proofs.NameLemmas.{HasListed}
use Rattle.vector_text.proofs.outputs.listed_outputs.Given as goal

abbrev pub invariant-loop-name : goal.invariant-loop-name
invariant-loop-name l = record {
  names : HasListed (output_fault l.flat.parts l.line) l.flat.parts l.name-index l.names l.outputs.items;
  few : length l.outputs.items ≤ 1048576;
}
