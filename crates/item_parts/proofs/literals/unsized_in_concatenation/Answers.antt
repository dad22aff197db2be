use Rattle.std.proofs.Common.{ap, sym, ◌∙◌}
use Rattle.v_tree.specs.declared.expressions.Expr.{out-Expr}
use Rattle.v_tree.specs.declared.expressions.Expr.TheVariants as expr
use Rattle.rule_places.specs.Places.{first_place}
use Rattle.item_parts.specs.Literals.{unsized_literals, unsized_in_parts}
use Rattle.item_parts.proofs.Parts.{unsized_literals-concat}
use Rattle.item_parts.proofs.literals.unsized_in_concatenation.Goals as goal

pub returns-in-Concat : goal.returns-in-Concat
returns-in-Concat c =
    let location = c.in-Concat.field-0 in
    let parts = c.in-Concat.field-1 in
    c.unsized_literal.ensures
    ∙ ap first_place (ap unsized_literals c.in-Concat.is ∙ unsized_literals-concat location parts
    ∙ sym (ap unsized_in_parts (ap out-Expr c.in-Concat.is ∙ expr.outs-Concat location parts)))
