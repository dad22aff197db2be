use Rattle.std.proofs.Common.{◌≡◌, List, Option, None, sym, ap, subst, ◌∙◌}
use Rattle.std.specs.Prelude.{option_map}
use Rattle.vector_text.specs.declared.body.Block.{Block}
use Rattle.vector_text.specs.declared.vectors.VectorLine.{VectorLine}
use Rattle.vector_text.specs.Written.{Body, with_turns}
use Rattle.vector_text.specs.BodyInside.{block_view, AreParts}
use Rattle.vector_text.proofs.BodyLemmas.{view_of, closed_lines, parts-close, view-close}
use Rattle.vector_text.proofs.body.Body.close.Goals as goal
use Rattle.vector_text.proofs.body.Body.close.Goals.{in-Some+in_ok-push_turns-in-Some, in-None}

pub invariant_of-result : goal.invariant_of-result
invariant_of-result c =
    let lines = c.self.inside.schedule in
    let end = c.self.inside.end in
    elim c.match-block.branch [
      | in-Some+in_ok-push_turns-in-Some w ↦ (let block = w.in-Some.block in
          let parts = subst (λ (o : Option Block). AreParts lines o end) w.in-Some.is c.self.invariant in
          let made : c.match-block.schedule ≡ closed_lines lines block = cc w.in_ok-push_turns-in-Some.ensures in
          rw made (parts-close lines block end parts))
      | in-None w ↦ (let same : c.match-block.schedule ≡ lines = cc in
          rw same (subst (λ (o : Option Block). AreParts lines o end) w.in-None.is c.self.invariant))
    ]

pub returns : goal.returns
returns c =
    let lines = c.self.inside.schedule in
    let end = c.self.inside.end in
    let whole = ap (λ (b : Body). with_turns b b.block) c.self.view_is in
    elim c.match-block.branch [
      | in-Some+in_ok-push_turns-in-Some w ↦ (let block = w.in-Some.block in
          let made : c.match-block.schedule ≡ closed_lines lines block = cc w.in_ok-push_turns-in-Some.ensures in
          ap (λ (ls : List VectorLine). view_of ls None end) made
          ∙ view-close lines block end
          ∙ ap (λ (o : Option Block). with_turns (view_of lines o end) (option_map (block_view lines) o)) (sym w.in-Some.is)
          ∙ whole)
      | in-None w ↦ (let same : c.match-block.schedule ≡ lines = cc in
          ap (λ (ls : List VectorLine). view_of ls None end) same
          ∙ ap (λ (o : Option Block). with_turns (view_of lines o end) (option_map (block_view lines) o)) (sym w.in-None.is)
          ∙ whole)
    ]
