use Rattle.std.proofs.Common.{◌≡◌, ◌++◌, List, take, ap, sym, ◌∙◌}
use Rattle.std.specs.List.{flat_map}
use Rattle.std.proofs.lemmas.List.{take_all}
use Rattle.v_tree.specs.declared.expressions.Target.{Target}
use Rattle.expression_bits.specs.declared.runs.BitRun.{BitRun}
use Rattle.module_parts.specs.Parts.{target_runs}
use Rattle.module_parts.proofs.Targets.{target_runs-concat}
use Rattle.module_parts.proofs.assignments.«+push_target».Goals as goal

pub returns-after-loop-part : goal.returns-after-loop-part
returns-after-loop-part t c =
    let parts = c.as_slice-part-items.result.now in
    let all : take c.loop-part.part-index parts ≡ parts = take_all c.loop-part.part-index parts c.loop-part-test.false in
    c.loop-part.invariant
    ∙ ap (λ (ps : List Target). c.args.runs.now ++ flat_map target_runs ps) (all ∙ c.as_slice-part-items.ensures)
    ∙ ap (λ (rs : List BitRun). c.args.runs.now ++ rs) (sym (ap target_runs c.in-Concat.is ∙ target_runs-concat c.in-Concat.field-0 c.in-Concat.parts))
