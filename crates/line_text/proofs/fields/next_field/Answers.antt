use Rattle.std.proofs.Common.{sym}
use Rattle.line_text.proofs.FieldLemmas.{no_field, field_cut, field_whole}
use Rattle.line_text.proofs.fields.next_field.Goals as goal

pub returns-in_err-start-clause-parts : goal.returns-in_err-start-clause-parts
returns-in_err-start-clause-parts c = rw c.from_residual.ensures (no_field c.args.line.now (sym c.in_err-start.ensures))

pub returns-in_err-start-clause-shorter : goal.returns-in_err-start-clause-shorter
returns-in_err-start-clause-shorter c = rw c.from_residual.ensures (no_field c.args.line.now (sym c.in_err-start.ensures))

pub returns-in-Some-clause-parts : goal.returns-in-Some-clause-parts
returns-in-Some-clause-parts c = field_cut c.args.line.now c.in_ok-start.start c.in-Some.end (sym c.in_ok-start.ensures) (sym c.in-Some.ensures)

pub returns-in-None-clause-parts : goal.returns-in-None-clause-parts
returns-in-None-clause-parts c = field_whole c.args.line.now c.in_ok-start.start (sym c.in_ok-start.ensures) (sym c.in-None.ensures)
