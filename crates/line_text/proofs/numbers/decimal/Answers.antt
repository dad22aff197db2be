use Rattle.std.proofs.Common.{◌≡◌, length, eqb, true, false, sym, arith}
use Rattle.std.proofs.lemmas.Bool.{eqb-true, eqb-false}
use Rattle.line_text.specs.Numbers.{capped_decimal}
use Rattle.line_text.proofs.NumberLemmas.{number_start, number_step, number_end, number_none}
use Rattle.line_text.proofs.numbers.decimal.Goals as goal

pub returns-then-is_empty : goal.returns-then-is_empty
returns-then-is_empty c =
    let none : eqb (length c.args.field.now) 0 ≡ true = cc in
    number_none c.args.field.now (eqb-true (length c.args.field.now) 0 none)

pub loop-byte-init : goal.loop-byte-init
loop-byte-init c =
    let some : eqb (length c.args.field.now) 0 ≡ false = cc in
    record {
      so_far = number_start c.args.field.now (omega (arith, eqb-false (length c.args.field.now) 0 some));
      small = omega arith;
    }

pub loop-byte-preserved : goal.loop-byte-preserved
loop-byte-preserved c = record {
  so_far = number_step c.loop-byte.number c.loop-byte.byte-index c.in_ok-value.value c.saturating_add-number.result c.args.field.now (capped_decimal c.args.field.now)
      c.loop-byte-test.true (sym c.in_ok-value.ensures.value) (omega arith) c.loop-byte.invariant.so_far;
  small = omega arith;
}

pub returns : goal.returns
returns c = number_end c.loop-byte.number c.loop-byte.byte-index c.args.field.now (capped_decimal c.args.field.now) c.loop-byte-test.false c.loop-byte.invariant.small c.loop-byte.invariant.so_far
