use Rattle.std.proofs.Common.{◌≡◌, ◌++◌, List, take, ap, sym, ◌∙◌}
use Rattle.std.specs.List.{flat_map}
use Rattle.std.proofs.lemmas.List.{take_all}
use Rattle.v_tree.specs.declared.expressions.Target.{Target}
use Rattle.module_scope.specs.Mentions.{Mention, target_mentions}
use Rattle.module_scope.proofs.Uses.{target_mentions-concat}
use Rattle.module_scope.proofs.expressions.«+push_target».Goals as goal

pub returns-after-loop-part : goal.returns-after-loop-part
returns-after-loop-part t c =
    let parts = c.as_slice-part-items.result.now in
    let all : take c.loop-part.part-index parts ≡ parts = take_all c.loop-part.part-index parts c.loop-part-test.false in
    c.loop-part.invariant
    ∙ ap (λ (ps : List Target). c.args.list.now ++ flat_map target_mentions ps) (all ∙ c.as_slice-part-items.ensures)
    ∙ ap (λ (ms : List Mention). c.args.list.now ++ ms) (sym (ap target_mentions c.in-Concat.is ∙ target_mentions-concat c.in-Concat.field-0 c.in-Concat.parts))
