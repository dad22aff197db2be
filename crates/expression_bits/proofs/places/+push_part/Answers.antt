use Rattle.std.proofs.Common.{◌≡◌, ◌++◌, List, take, ap, sym, ◌∙◌}
use Rattle.std.specs.List.{flat_map}
use Rattle.std.proofs.lemmas.List.{take_all}
use Rattle.v_tree.specs.declared.expressions.Expr.{Expr}
use Rattle.expression_bits.specs.declared.runs.BitRun.{BitRun}
use Rattle.expression_bits.specs.Runs.{part_runs}
use Rattle.expression_bits.proofs.Parts.{part_runs-concat}
use Rattle.expression_bits.proofs.places.«+push_part».Goals as goal

pub returns-after-loop-inner : goal.returns-after-loop-inner
returns-after-loop-inner t c =
    let parts = c.as_slice-inner-items.result.now in
    let all : take c.loop-inner.inner-index parts ≡ parts = take_all c.loop-inner.inner-index parts c.loop-inner-test.false in
    c.loop-inner.invariant
    ∙ ap (λ (ps : List Expr). c.args.runs.now ++ flat_map part_runs ps) (all ∙ c.as_slice-inner-items.ensures)
    ∙ ap (λ (rs : List BitRun). c.args.runs.now ++ rs) (sym (ap part_runs c.in-Concat.is ∙ part_runs-concat c.in-Concat.field-0 c.in-Concat.parts))
