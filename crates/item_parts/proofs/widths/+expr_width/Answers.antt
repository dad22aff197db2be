use Rattle.std.proofs.Common.{◌≡◌, ℕ, ◌+◌, ◌<◌, ◌^◌, min, List, length, take, sum_by, Option, None, Some, refl, ap, sym, ◌∙◌, arith}
use Rattle.std.specs.Option.{option_map, unwrap_or}
use Rattle.std.proofs.lemmas.List.{take_all}
use Rattle.std.proofs.lemmas.List.Sums.{sum_by_more}
use Rattle.v_tree.specs.declared.expressions.Expr.{Expr}
use Rattle.item_parts.specs.Widths.{expr_width}
use Rattle.item_parts.proofs.Parts.{part_width, expr_width-concat}
use Rattle.item_parts.proofs.widths.«+expr_width».Goals as goal

-- what a part adds, up to the widest
added : (width : Option ℕ) → unwrap_or (option_map (λ (w : ℕ). min w (2 ^ 64)) width) 0 ≡ min (unwrap_or width 0) (2 ^ 64)
added None = omega arith
added (Some width) = refl

capped : (before more : ℕ) → min (min before (2 ^ 64) + min more (2 ^ 64)) (2 ^ 64) ≡ min (before + more) (2 ^ 64)
capped before more = omega arith

pub loop-part-preserved : goal.loop-part-preserved
loop-part-preserved t c =
    let scope = c.args.scope.now in
    let parts = c.as_slice-part-items.result.now in
    let i = c.loop-part.part-index in
    let lt : i < length parts = omega arith in
    let before = sum_by (part_width scope) (take i parts) in
    let more = part_width scope c.part-item.result in
    c.wider-width.ensures
    ∙ ap (λ (w : ℕ). min (w + c.unwrap_or.result) (2 ^ 64)) c.loop-part.invariant
    ∙ ap (λ (w : ℕ). min (min before (2 ^ 64) + w) (2 ^ 64))
    (c.unwrap_or.ensures ∙ ap (λ (w : Option ℕ). unwrap_or w 0) c.expr_width.ensures ∙ added (expr_width scope c.part-item.result))
    ∙ capped before more
    ∙ ap (λ (w : ℕ). min (before + w) (2 ^ 64)) (ap (part_width scope) c.part-item.is)
    ∙ ap (λ (w : ℕ). min w (2 ^ 64)) (sym (sum_by_more (part_width scope) parts i c.part-item.result lt))

pub returns-after-loop-part : goal.returns-after-loop-part
returns-after-loop-part t c =
    let scope = c.args.scope.now in
    let parts = c.as_slice-part-items.result.now in
    let all : take c.loop-part.part-index parts ≡ parts = take_all c.loop-part.part-index parts c.loop-part-test.false in
    ap (λ (w : ℕ). Some w) c.loop-part.invariant
    ∙ ap (λ (ps : List Expr). Some (min (sum_by (part_width scope) ps) (2 ^ 64))) (all ∙ c.as_slice-part-items.ensures)
    ∙ ap (λ (w : Option ℕ). option_map (λ (n : ℕ). min n (2 ^ 64)) w) (sym (ap (expr_width scope) c.in-Concat.is ∙ expr_width-concat scope c.in-Concat.field-0 c.in-Concat.parts))
