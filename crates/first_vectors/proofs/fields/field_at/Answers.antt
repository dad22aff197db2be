use Rattle.std.proofs.Common.{sym}
use Rattle.first_vectors.proofs.Text.{field_cut, field_whole}
use Rattle.first_vectors.proofs.fields.field_at.Goals as goal

pub returns-in-Some-clause-parts : goal.returns-in-Some-clause-parts
returns-in-Some-clause-parts c = field_cut c.args.line.now c.in-Some.i (sym c.in-Some.ensures)

pub returns-in-None-clause-parts : goal.returns-in-None-clause-parts
returns-in-None-clause-parts c = field_whole c.args.line.now (sym c.in-None.ensures)
