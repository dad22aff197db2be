use Rattle.std.proofs.Common.{◌≡◌, ◌++◌, List, take, ap, sym, ◌∙◌}
use Rattle.std.specs.List.{flat_map}
use Rattle.std.proofs.lemmas.List.{take_all}
use Rattle.v_tree.specs.declared.expressions.Expr.{Expr}
use Rattle.module_scope.specs.Mentions.{Mention, expr_mentions}
use Rattle.module_scope.proofs.Uses.{expr_mentions-concat}
use Rattle.module_scope.proofs.expressions.«+push_expr».Goals as goal

pub returns-after-loop-part : goal.returns-after-loop-part
returns-after-loop-part t c =
    let parts = c.as_slice-part-items.result.now in
    let all : take c.loop-part.part-index parts ≡ parts = take_all c.loop-part.part-index parts c.loop-part-test.false in
    c.loop-part.invariant
    ∙ ap (λ (ps : List Expr). c.args.list.now ++ flat_map (expr_mentions c.args.side) ps) (all ∙ c.as_slice-part-items.ensures)
    ∙ ap (λ (ms : List Mention). c.args.list.now ++ ms) (sym (ap (expr_mentions c.args.side) c.in-Concat.is ∙ expr_mentions-concat c.args.side c.in-Concat.field-0 c.in-Concat.parts))
