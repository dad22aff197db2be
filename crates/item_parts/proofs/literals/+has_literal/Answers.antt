use Rattle.std.proofs.Common.{◌≡◌, ◌<◌, true, List, length, get_or, take, ap, sym, ◌∙◌, arith}
use Rattle.std.specs.List.{list_any}
use Rattle.std.proofs.lemmas.List.{take_all}
use Rattle.std.proofs.lemmas.List.Folds.{list_any_at}
use Rattle.v_tree.specs.declared.expressions.Expr.{Expr}
use Rattle.item_parts.specs.Literals.{has_literal}
use Rattle.item_parts.proofs.Parts.{has_literal-concat}
use Rattle.item_parts.proofs.literals.«+has_literal».Goals as goal

pub returns-then-has_literal : goal.returns-then-has_literal
returns-then-has_literal t c =
    let parts = c.as_slice-part-items.result.now in
    let lt : c.loop-part.part-index < length parts = omega arith in
    let here : has_literal (get_or parts c.loop-part.part-index c.part-item.result) ≡ true =
    ap has_literal (sym c.part-item.is) ∙ sym c.has_literal.ensures ∙ c.if-has_literal.true in
    sym (ap has_literal c.in-Concat.is ∙ has_literal-concat c.in-Concat.field-0 c.in-Concat.parts
    ∙ ap (λ (ps : List Expr). list_any has_literal ps) (sym c.as_slice-part-items.ensures)
    ∙ list_any_at has_literal parts c.loop-part.part-index c.part-item.result lt here)

pub returns-after-loop-part : goal.returns-after-loop-part
returns-after-loop-part t c =
    let parts = c.as_slice-part-items.result.now in
    let all : take c.loop-part.part-index parts ≡ parts = take_all c.loop-part.part-index parts c.loop-part-test.false in
    sym (ap has_literal c.in-Concat.is ∙ has_literal-concat c.in-Concat.field-0 c.in-Concat.parts
    ∙ ap (λ (ps : List Expr). list_any has_literal ps) (sym (all ∙ c.as_slice-part-items.ensures))
    ∙ c.loop-part.invariant)
