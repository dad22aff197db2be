use Rattle.std.proofs.Common.{◌≡◌, ◌<◌, get_or, length, subst, sym, List, ℕ}
use Rattle.timing_wheel.specs.Times.{idle}
use Rattle.timing_wheel.proofs.Kept.{IsSchedule-start_near, IsSchedule-start_far}
use Rattle.timing_wheel.proofs.schedule.Schedule.start.Goals as goal
use Rattle.timing_wheel.proofs.schedule.Schedule.start.Goals.{in-Some, in-None}

pub invariant_of-self : goal.invariant_of-self
invariant_of-self c =
    let s = c.self.inside in
    let fits : c.args.slot < length s.times.items = subst (λ (times : List ℕ). c.args.slot < length times) (sym c.self.view_is) c.requires.slot in
    let rests : get_or s.times.items c.args.slot 0 ≡ idle = subst (λ (times : List ℕ). get_or times c.args.slot 0 ≡ idle) (sym c.self.view_is) c.requires.idle in
    elim c.match-bucket.branch [
      | in-Some w ↦ rw (w.self-inside-is, w.link.ensures, c.unlink.ensures, w.set.ensures)
          (IsSchedule-start_near s.times.items s.chains.places s.ticks s.far s.chains.lists c.args.slot c.args.time w.in-Some.bucket c.self.invariant fits rests c.requires.time w.in-Some.ensures.within w.in-Some.ensures.free)
      | in-None w ↦ rw (w.self-inside-is, c.unlink.ensures, w.set-in-None.ensures)
          (IsSchedule-start_far s.times.items s.chains.places s.ticks s.far s.chains.lists c.args.slot c.args.time c.self.invariant fits rests c.requires.time)
    ]
