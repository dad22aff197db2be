use Rattle.std.proofs.Common.{◌≡◌, ◌≤◌, drop, ◌^◌}
use Rattle.first_vectors.specs.Fields.{limited_after}
use Rattle.first_vectors.proofs.fields.number_of.Given as goal

abbrev pub invariant-loop-digit : goal.invariant-loop-digit
invariant-loop-digit l = (l.number ≤ 2 ^ 40) × (limited_after l.number (drop l.digit-index l.digits) ≡ limited_after 0 l.digits)
