use Rattle.std.proofs.Common.{List, ℕ, sym, subst, ◌∙◌, arith}
use Rattle.timing_wheel.specs.Times.{IsLeastOf, AllIdle}
use Rattle.timing_wheel.proofs.Kept.{schedule_least, schedule_idle}
use Rattle.timing_wheel.proofs.schedule.Schedule.least.Goals as goal

pub returns-clause-least : goal.returns-clause-least
returns-clause-least c =
    let s = c.self.inside in
    subst (λ (times : List ℕ). IsLeastOf times c.min.result) c.self.view_is
    (subst (IsLeastOf s.times.items) (sym c.min.ensures)
    (schedule_least s.times.items s.chains s.ticks s.far c.least.result c.least-2.result c.self.invariant c.least.ensures c.least-2.ensures (omega arith) (omega arith)))

pub returns-clause-none : goal.returns-clause-none
returns-clause-none c none =
    let s = c.self.inside in
    subst AllIdle c.self.view_is
    (schedule_idle s.times.items s.chains s.ticks s.far c.least.result c.least-2.result c.self.invariant c.least.ensures c.least-2.ensures (sym c.min.ensures ∙ none))
