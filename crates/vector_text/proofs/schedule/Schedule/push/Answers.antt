use Rattle.std.proofs.Common.{◌≡◌, ◌+◌, ◌-◌, ◌^◌, min, Bool, ℕ, ap, ◌∙◌}
use Rattle.vector_text.specs.Written.{is_strobe, size_of}
use Rattle.vector_text.specs.Inside.{strobes_with}
use Rattle.vector_text.proofs.ScheduleLemmas.{counts_push}
use Rattle.vector_text.proofs.schedule.Schedule.push.Goals as goal

pub invariant_of-self-2 : goal.invariant_of-self-2
invariant_of-self-2 c =
    let s = c.self.inside in
    let line = c.args.line in
    let strobes : c.behind_with-behind_strobes.result ≡ strobes_with (is_strobe line.what) s.behind_strobes line.time
    = c.behind_with-behind_strobes.ensures ∙ ap (λ (b : Bool). strobes_with b s.behind_strobes line.time) c.is_strobe-strobe.ensures in
    let size : c.saturating_add-size.result ≡ min (s.size + size_of line.what) (2 ^ 64 - 1)
    = c.saturating_add-size.ensures ∙ ap (λ (n : ℕ). min (s.size + n) (2 ^ 64 - 1)) c.size_of.ensures in
    rw (c.in_ok-push.ensures.items, c.behind_with-behind_lines.ensures, strobes, size) (counts_push s.lines.items line s.behind_lines s.behind_strobes s.size c.self.invariant)
