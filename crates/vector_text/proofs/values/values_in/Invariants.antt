use Rattle.std.proofs.Common.{◌≡◌}
use Rattle.vector_text.specs.Sayings.{all_said, value_bytes}
use Rattle.vector_text.proofs.ValueLemmas.{read_from}
use Rattle.vector_text.proofs.values.values_in.Given as goal

abbrev pub invariant-loop-byte : goal.invariant-loop-byte
invariant-loop-byte g l = read_from g.V.FieldValue.said l.values.items l.field l.byte-index ≡ all_said g.V.FieldValue.said (value_bytes l.field)
