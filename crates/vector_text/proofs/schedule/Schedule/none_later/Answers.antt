use Rattle.std.proofs.Common.{◌<◌, ◌^◌, ℕ, List, leb, ap, ◌∙◌, arith}
use Rattle.vector_text.specs.declared.vectors.VectorLine.{VectorLine}
use Rattle.vector_text.specs.Written.{none_later}
use Rattle.vector_text.specs.Inside.{behind_all}
use Rattle.vector_text.proofs.ScheduleLemmas.{leb_capped, none_later-leb}
use Rattle.vector_text.proofs.schedule.Schedule.none_later.Goals as goal

pub returns : goal.returns
returns c =
    let lines = c.self.inside.lines.items in
    let small : behind_all lines < 2 ^ 64 = omega (arith, c.self.invariant.behind_lines) in
    ap (λ (n : ℕ). leb n c.saturating_add.result) c.self.invariant.behind_lines
    ∙ ap (leb (behind_all lines)) c.saturating_add.ensures
    ∙ leb_capped (behind_all lines) c.args.time small
    ∙ none_later-leb lines c.args.time
    ∙ ap (λ (ls : List VectorLine). none_later ls c.args.time) c.self.view_is
