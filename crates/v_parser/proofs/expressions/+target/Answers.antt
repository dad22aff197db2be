use Rattle.std.proofs.Common.{rules, arith, length, ◌≡◌, ◌<◌, true, Ok}
use Rattle.v_parser.specs.Input.{commas, is_mark, front, after_comma}
use Rattle.v_parser.specs.Expressions.{target_at}
use Rattle.v_parser.proofs.Turns.{commas_step}
use Rattle.v_parser.proofs.expressions.«+target».Goals as goal

pub targets_at-loop-preserved : goal.targets_at-loop-preserved
targets_at-loop-preserved t c =
    let below : c.loop.counter < length c.target_at.new.cursor.tokens = omega arith in
    let comma : is_mark 44 (front c.loop.cursor) ≡ true = search rules in
    let read : target_at c.args.depth (after_comma c.loop.cursor) ≡ Ok (c.in_ok-target_at-2.field-0, c.target_at-in-loop.new.cursor) = search rules in
    rw c.in_ok-push-2.ensures.items (commas_step (target_at c.args.depth) (length c.target_at.new.cursor.tokens) c.loop.counter c.loop.parts.items c.loop.cursor c.target_at-in-loop.new.cursor c.in_ok-target_at-2.field-0
    (commas (target_at c.args.depth) c.push.new.self.items c.target_at.new.cursor) below comma read c.loop.invariant)
