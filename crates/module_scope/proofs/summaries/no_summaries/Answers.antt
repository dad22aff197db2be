use Rattle.std.proofs.Common.{ap, sym, ◌∙◌, ◌++◌, ◌∷◌, [], List, ℕ, arith}
use Rattle.std.proofs.lemmas.List.FromFn.{map-range_with_len_more}
use Rattle.module_scope.specs.declared.summaries.Summary.{Summary}
use Rattle.module_scope.specs.Summaries.{summary_of, summaries_of}
use Rattle.module_scope.proofs.summaries.no_summaries.Goals as goal

pub loop-preserved : goal.loop-preserved
loop-preserved c =
    c.in_ok-push.ensures.items
    ∙ ap (λ (ss : List Summary). ss ++ c.new.result ∷ []) c.loop.invariant
    ∙ ap (λ (s : Summary). summaries_of c.loop.counter [] ++ s ∷ []) c.new.ensures
    ∙ sym (map-range_with_len_more (λ (index : ℕ). summary_of []) 0 c.loop.counter c.loop.counter (omega arith))
