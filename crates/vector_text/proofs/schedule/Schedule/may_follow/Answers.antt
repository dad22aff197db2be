use Rattle.std.proofs.Common.{ℕ, List, leb, ap, sym, ◌∙◌}
use Rattle.vector_text.specs.declared.vectors.VectorLine.{VectorLine}
use Rattle.vector_text.specs.declared.stimulus.StimulusWhat.TheVariants.{Values}
use Rattle.vector_text.specs.Written.{may_follow}
use Rattle.vector_text.proofs.ScheduleLemmas.{behind_all-leb}
use Rattle.vector_text.proofs.schedule.Schedule.may_follow.Goals as goal

pub returns-in-Values : goal.returns-in-Values
returns-in-Values c =
    let lines = c.self.inside.lines.items in
    ap (λ (n : ℕ). leb n c.args.time) c.self.invariant.behind_lines
    ∙ behind_all-leb lines c.args.time
    ∙ ap (λ (ls : List VectorLine). may_follow ls c.args.time (Values c.in-Values.field-0)) c.self.view_is
    ∙ ap (may_follow c.args.self.now c.args.time) (sym c.in-Values.is)
