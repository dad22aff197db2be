use Rattle.std.proofs.Common.{sym}
use Rattle.first_vectors.specs.Reading.{values_of}
use Rattle.first_vectors.proofs.Loops.{values_step, values_stop, values_end}
use Rattle.first_vectors.proofs.rows.values_in.Goals as goal

pub returns-in-None : goal.returns-in-None
returns-in-None c = values_stop c.loop-byte.values.items c.loop-byte.byte-index c.args.field.now (values_of c.args.field.now) c.loop-byte-test.true (sym c.in-None.ensures) c.loop-byte.invariant

pub loop-byte-preserved : goal.loop-byte-preserved
loop-byte-preserved c = rw c.in_ok-push-in-Some.ensures.items (values_step c.loop-byte.values.items c.in-Some.value c.loop-byte.byte-index c.args.field.now (values_of c.args.field.now) c.loop-byte-test.true (sym c.in-Some.ensures) c.loop-byte.invariant)

pub returns : goal.returns
returns c = values_end c.loop-byte.values.items c.loop-byte.byte-index c.args.field.now (values_of c.args.field.now) c.loop-byte-test.false c.loop-byte.invariant
