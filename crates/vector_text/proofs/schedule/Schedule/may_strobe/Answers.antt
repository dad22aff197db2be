use Rattle.std.proofs.Common.{◌≡◌, ℕ, List, leb, true, ap, ◌∙◌}
use Rattle.vector_text.specs.declared.vectors.VectorLine.{VectorLine}
use Rattle.vector_text.specs.Written.{none_later, may_strobe}
use Rattle.vector_text.proofs.ScheduleLemmas.{strobes-leb, may_strobe-early}
use Rattle.vector_text.proofs.schedule.Schedule.may_strobe.Goals as goal

pub returns-then-none_later : goal.returns-then-none_later
returns-then-none_later c =
    let lines = c.self.inside.lines.items in
    let early : none_later c.args.self.now c.args.time ≡ true = cc in
    ap (λ (n : ℕ). leb n c.args.time) c.self.invariant.behind_strobe
    ∙ strobes-leb lines c.args.time
    ∙ may_strobe-early lines c.args.time (ap (λ (ls : List VectorLine). none_later ls c.args.time) c.self.view_is ∙ early)
    ∙ ap (λ (ls : List VectorLine). may_strobe ls c.args.time) c.self.view_is
