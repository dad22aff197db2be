use Rattle.std.proofs.Common.{◌*◌, ◌+◌, arith, drop, ◌∙◌, sym}
use Rattle.first_vectors.specs.Fields.{limited_after}
use Rattle.first_vectors.proofs.Text.{number_over, number_stop, number_step, number_end}
use Rattle.first_vectors.proofs.fields.number_of.Goals as goal

pub returns-in_err-value-clause-value : goal.returns-in_err-value-clause-value
returns-in_err-value-clause-value c = rw c.from_residual.ensures (number_stop c.loop-digit.number c.loop-digit.digit-index c.args.digits.now (limited_after 0 c.args.digits.now) c.loop-digit-test.true (sym c.in_err-value.ensures.value) c.loop-digit.invariant.1)

pub returns-then-number-gt-LAST_TIME-clause-value : goal.returns-then-number-gt-LAST_TIME-clause-value
returns-then-number-gt-LAST_TIME-clause-value c =
    let next = number_step c.loop-digit.number c.loop-digit.digit-index c.in_ok-value.value c.args.digits.now (limited_after 0 c.args.digits.now) c.loop-digit-test.true (sym c.in_ok-value.ensures.value) c.loop-digit.invariant.1 in
    sym (number_over (c.loop-digit.number * 10 + c.in_ok-value.value) (drop (c.loop-digit.digit-index + 1) c.args.digits.now) (omega arith)) ∙ next

pub loop-digit-preserved : goal.loop-digit-preserved
loop-digit-preserved c =
    (omega arith, number_step c.loop-digit.number c.loop-digit.digit-index c.in_ok-value.value c.args.digits.now (limited_after 0 c.args.digits.now) c.loop-digit-test.true (sym c.in_ok-value.ensures.value) c.loop-digit.invariant.1)

pub returns-clause-value : goal.returns-clause-value
returns-clause-value c = number_end c.loop-digit.number c.loop-digit.digit-index c.args.digits.now (limited_after 0 c.args.digits.now) c.loop-digit-test.false c.loop-digit.invariant.0 c.loop-digit.invariant.1
