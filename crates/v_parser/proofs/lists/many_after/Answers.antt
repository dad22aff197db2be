use Rattle.std.proofs.Common.{rules, arith, length, ◌≡◌, ◌<◌, false, Ok}
use Rattle.v_parser.specs.Input.{many_after, front}
use Rattle.v_parser.proofs.Turns.{many_step}
use Rattle.v_parser.proofs.lists.many_after.Goals as goal

pub loop-preserved : goal.loop-preserved
loop-preserved g c =
    let below : c.loop.counter < length c.args.cursor.now.tokens = omega arith in
    let goes : g.P.RepeatedPart.stops (front c.loop.cursor) ≡ false = search rules in
    let read : g.P.Part.reader c.loop.cursor ≡ Ok (c.in_ok-read.field-0, c.read.new.cursor) = search rules in
    rw c.in_ok-push.ensures.items (many_step g.P.RepeatedPart.stops g.P.Part.reader (length c.args.cursor.now.tokens) c.loop.counter c.loop.found.items c.loop.cursor c.read.new.cursor c.in_ok-read.field-0
    (many_after g.P.RepeatedPart.stops g.P.Part.reader c.args.found.items c.args.cursor.now) below goes read c.loop.invariant)
