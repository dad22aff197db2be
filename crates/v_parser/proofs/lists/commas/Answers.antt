use Rattle.std.proofs.Common.{rules, arith, length, ◌≡◌, ◌<◌, true, Ok}
use Rattle.v_parser.specs.Input.{commas, is_mark, front, after_comma}
use Rattle.v_parser.proofs.Turns.{commas_step}
use Rattle.v_parser.proofs.lists.commas.Goals as goal

pub loop-preserved : goal.loop-preserved
loop-preserved g c =
    let below : c.loop.counter < length c.args.cursor.now.tokens = omega arith in
    let comma : is_mark 44 (front c.loop.cursor) ≡ true = search rules in
    let read : g.P.Part.reader (after_comma c.loop.cursor) ≡ Ok (c.in_ok-read.field-0, c.read.new.cursor) = search rules in
    rw c.in_ok-push.ensures.items (commas_step g.P.Part.reader (length c.args.cursor.now.tokens) c.loop.counter c.loop.found.items c.loop.cursor c.read.new.cursor c.in_ok-read.field-0
    (commas g.P.Part.reader c.args.found.items c.args.cursor.now) below comma read c.loop.invariant)
