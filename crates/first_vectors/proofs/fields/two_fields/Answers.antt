use Rattle.std.proofs.Common.{rules}
use Rattle.first_vectors.proofs.Text.{three_fields}
use Rattle.first_vectors.proofs.fields.two_fields.Goals as goal

pub returns-in-Some : goal.returns-in-Some
returns-in-Some c =
    three_fields c.args.line.now c.in_ok-rest.field-0.now c.in-Some.field-0.now c.field_at.result.0.now c.field_at-2.result.0.now (search rules) (search rules)
