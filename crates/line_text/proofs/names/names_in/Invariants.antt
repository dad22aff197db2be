use Rattle.std.proofs.Common.{◌≡◌, [], drop}
use Rattle.line_text.specs.Names.{names_of}
use Rattle.line_text.proofs.NameLemmas.{names_so_far, IsBetween}
use Rattle.line_text.proofs.names.names_in.Given as goal

abbrev pub invariant-loop-byte : goal.invariant-loop-byte
invariant-loop-byte l = record {
  so_far : names_so_far l.names.items l.name.items l.place (drop l.byte-index l.line) ≡ names_of l.line;
  between : IsBetween l.place → l.name.items ≡ [];
}
