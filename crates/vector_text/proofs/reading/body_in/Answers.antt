use Rattle.std.proofs.Common.{◌≡◌, ◌+◌, ◌≤◌, [], ◌∷◌, ℕ, List, Result, length, sym, subst, arith, rules}
use Rattle.std.proofs.lemmas.Result.{err_from_is_err_and}
use Rattle.line_text.specs.Lines.{lines_behind}
use Rattle.vector_text.specs.declared.fault.VecFault.{VecFault}
use Rattle.vector_text.specs.declared.vectors.VectorLine.{VectorLine}
use Rattle.vector_text.specs.Written.{Body}
use Rattle.vector_text.specs.Answers.{Reads}
use Rattle.vector_text.proofs.ReadingLemmas.{HasRead, read_start, read_more, read_all, stop_fault}
use Rattle.vector_text.proofs.reading.body_in.Goals as goal

pub loop-line-init : goal.loop-line-init
loop-line-init c =
    let all = lines_behind c.args.before c.args.text.now in
    (subst (λ (body : Body). HasRead c.args.version all body all) (sym c.new-body.ensures) (read_start c.args.version all), c.requires)

pub returns-in_err-body : goal.returns-in_err-body
returns-in_err-body c =
    let all = lines_behind c.args.before c.args.text.now in
    let line : ℕ × List ℕ = (c.in-Some.line.number, c.in-Some.line.bytes.now) in
    let rest = lines_behind c.loop-line.number c.loop-line.rest.now in
    let others = lines_behind c.in-Some.line.number c.in-Some.line.rest.now in
    let cut : rest ≡ line ∷ others = search rules in
    let p = err_from_is_err_and c.from_residual.result c.from_residual.ensures.1 in
    rw (p.1, p.2) (stop_fault c.args.version all c.loop-line.body line rest others c.in_err-body.field-0.0 c.loop-line.invariant.0 cut c.in_err-body.ensures)

pub loop-line-preserved : goal.loop-line-preserved
loop-line-preserved c =
    let all = lines_behind c.args.before c.args.text.now in
    let line : ℕ × List ℕ = (c.in-Some.line.number, c.in-Some.line.bytes.now) in
    let rest = lines_behind c.loop-line.number c.loop-line.rest.now in
    let others = lines_behind c.in-Some.line.number c.in-Some.line.rest.now in
    let cut : rest ≡ line ∷ others = search rules in
    let room : c.in-Some.line.number + length c.in-Some.line.rest.now ≤ c.loop-line.number + length c.loop-line.rest.now = search rules in
    (read_more c.args.version all c.loop-line.body c.in_ok-body.body line rest others c.loop-line.invariant.0 cut c.in_ok-body.ensures, omega arith)

pub returns : goal.returns
returns c =
    let all = lines_behind c.args.before c.args.text.now in
    let rest = lines_behind c.loop-line.number c.loop-line.rest.now in
    let none : rest ≡ [] = search rules in
    subst (λ (given : Result (List VectorLine × ℕ) VecFault). Reads (λ (x : List VectorLine × ℕ). (x.0, x.1)) c.finish.result given) (sym (read_all c.args.version all c.loop-line.body rest c.loop-line.invariant.0 none)) c.finish.ensures
