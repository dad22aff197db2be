use Rattle.std.proofs.Common.{◌∙◌}
use Rattle.line_text.proofs.NumberLemmas.{number_short, number_long}
use Rattle.line_text.proofs.numbers.number.Goals as goal

pub returns-then-field-le20 : goal.returns-then-field-le20
returns-then-field-le20 c = c.decimal.ensures ∙ number_short c.args.field.now c.if-field-le20.true

pub returns-else-field-le20 : goal.returns-else-field-le20
returns-else-field-le20 c = number_long c.args.field.now c.if-field-le20.false
