use Rattle.std.proofs.Common.{◌≡◌, drop}
use Rattle.first_vectors.specs.Reading.{values_of}
use Rattle.first_vectors.proofs.Loops.{with_front}
use Rattle.first_vectors.proofs.rows.values_in.Given as goal

abbrev pub invariant-loop-byte : goal.invariant-loop-byte
invariant-loop-byte l = with_front l.values.items (values_of (drop l.byte-index l.field)) ≡ values_of l.field
