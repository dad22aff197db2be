use Rattle.std.proofs.Common.{◌≡◌, ◌<◌, ◌∙◌, length, eqb, get_or, true, false, sym, ap, Some, arith}
use Rattle.std.proofs.lemmas.Bool.{ne_eqb, eqb-true, eqb-false}
use Rattle.vector_text.specs.Sayings.{all_said, value_bytes}
use Rattle.vector_text.proofs.ValueLemmas.{stopped, ended, none_in, empty_in, some_in}
use Rattle.vector_text.proofs.values.values_in.Goals as goal

pub returns-in-None : goal.returns-in-None
returns-in-None g c =
    let at = get_or c.args.field.now c.loop-byte.byte-index 0 in
    sym (none_in g.V.FieldValue.said c.args.field.now (stopped g.V.FieldValue.said c.loop-byte.values.items c.loop-byte.byte-index c.args.field.now (all_said g.V.FieldValue.said (value_bytes c.args.field.now)) c.loop-byte-test.true
    (ne_eqb at 95 c.if-byte-eq95.false) (sym c.of.ensures ∙ c.in-None.is) c.loop-byte.invariant))

pub returns-then-is_empty : goal.returns-then-is_empty
returns-then-is_empty g c =
    let none : eqb (length c.loop-byte.values.items) 0 ≡ true = cc in
    sym (empty_in g.V.FieldValue.said c.args.field.now c.loop-byte.values.items
    (ended g.V.FieldValue.said c.loop-byte.values.items c.loop-byte.byte-index c.args.field.now (all_said g.V.FieldValue.said (value_bytes c.args.field.now)) c.loop-byte-test.false c.loop-byte.invariant)
    (eqb-true (length c.loop-byte.values.items) 0 none))

pub returns : goal.returns
returns g c =
    let some : eqb (length c.loop-byte.values.items) 0 ≡ false = cc in
    let filled : 0 < length c.loop-byte.values.items = omega (arith, eqb-false (length c.loop-byte.values.items) 0 some) in
    ap Some c.from_vec.ensures
    ∙ sym (some_in g.V.FieldValue.said c.args.field.now c.loop-byte.values.items
    (ended g.V.FieldValue.said c.loop-byte.values.items c.loop-byte.byte-index c.args.field.now (all_said g.V.FieldValue.said (value_bytes c.args.field.now)) c.loop-byte-test.false c.loop-byte.invariant)
    filled)
