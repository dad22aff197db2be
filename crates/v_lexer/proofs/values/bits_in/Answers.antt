use Rattle.std.proofs.Common.{arith}
use Rattle.v_lexer.specs.Literals.{form_view}
use Rattle.v_lexer.proofs.Digits.{holds_within, holds_small}
use Rattle.v_lexer.proofs.values.bits_in.Goals as goal

pub decimal_bits-requires-clause-few : goal.decimal_bits-requires-clause-few
decimal_bits-requires-clause-few c = omega (arith, c.width_of-n.ensures, holds_within c.args.size (form_view c.args.form.now) c.requires)

pub decimal_bits-requires-clause-small : goal.decimal_bits-requires-clause-small
decimal_bits-requires-clause-small c = holds_small c.args.size (form_view c.args.form.now) c.requires c.in-Decimal.is
