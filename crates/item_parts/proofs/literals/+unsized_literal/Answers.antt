use Rattle.std.proofs.Common.{◌≡◌, List, take, ap, sym, ◌∙◌, arith}
use Rattle.std.specs.List.{flat_map}
use Rattle.std.proofs.lemmas.List.{take_all}
use Rattle.v_tree.specs.declared.expressions.Expr.{Expr}
use Rattle.rule_places.specs.Places.{first_place}
use Rattle.item_parts.specs.Literals.{unsized_literals}
use Rattle.item_parts.proofs.Parts.{unsized_literals-concat}
use Rattle.item_parts.proofs.Firsts.{next_first}
use Rattle.item_parts.proofs.literals.«+unsized_literal».Goals as goal

pub loop-part-preserved : goal.loop-part-preserved
loop-part-preserved t c =
    next_first unsized_literals c.as_slice-part-items.result.now c.loop-part.part-index c.part-item.result c.loop-part.first c.unsized_literal.result c.earliest-first.result
    (omega arith) c.part-item.is c.loop-part.invariant c.unsized_literal.ensures c.earliest-first.ensures

pub returns-after-loop-part : goal.returns-after-loop-part
returns-after-loop-part t c =
    let parts = c.as_slice-part-items.result.now in
    let all : take c.loop-part.part-index parts ≡ parts = take_all c.loop-part.part-index parts c.loop-part-test.false in
    c.loop-part.invariant
    ∙ ap (λ (ps : List Expr). first_place (flat_map unsized_literals ps)) (all ∙ c.as_slice-part-items.ensures)
    ∙ ap first_place (sym (ap unsized_literals c.in-Concat.is ∙ unsized_literals-concat c.in-Concat.field-0 c.in-Concat.parts))
