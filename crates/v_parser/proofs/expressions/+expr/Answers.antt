use Rattle.std.proofs.Common.{rules, arith, length, ◌≡◌, ◌<◌, true, false, Ok, sym, subst}
use Rattle.v_tree.specs.declared.expressions.Expr.{Expr}
use Rattle.v_parser.specs.Input.{Outcome, Reads, commas, is_mark, front, after_comma}
use Rattle.v_parser.specs.Expressions.{expr_at}
use Rattle.v_parser.proofs.Turns.{commas_step}
use Rattle.v_parser.proofs.Nested.{expr_at_atom}
use Rattle.v_parser.proofs.expressions.«+expr».Goals as goal

pub expr_at-returns-then-not-sees_mark : goal.expr_at-returns-then-not-sees_mark
expr_at-returns-then-not-sees_mark t c =
    let other : is_mark 123 (front c.args.cursor.now) ≡ false = search rules in
    subst (λ (o : Outcome Expr). Reads o c.atom-then-not-sees_mark.result c.atom-then-not-sees_mark.new.cursor) (sym (expr_at_atom c.args.depth c.args.cursor.now other)) c.atom-then-not-sees_mark.ensures

pub exprs_at-loop-preserved : goal.exprs_at-loop-preserved
exprs_at-loop-preserved t c =
    let below : c.loop.counter < length c.expr_at.new.cursor.tokens = omega arith in
    let comma : is_mark 44 (front c.loop.cursor) ≡ true = search rules in
    let read : expr_at c.args.depth (after_comma c.loop.cursor) ≡ Ok (c.in_ok-expr_at-2.field-0, c.expr_at-in-loop.new.cursor) = search rules in
    rw c.in_ok-push-2.ensures.items (commas_step (expr_at c.args.depth) (length c.expr_at.new.cursor.tokens) c.loop.counter c.loop.parts.items c.loop.cursor c.expr_at-in-loop.new.cursor c.in_ok-expr_at-2.field-0
    (commas (expr_at c.args.depth) c.push.new.self.items c.expr_at.new.cursor) below comma read c.loop.invariant)
