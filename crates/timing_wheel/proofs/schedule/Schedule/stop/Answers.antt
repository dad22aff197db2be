use Rattle.std.proofs.Common.{◌≡◌, ◌≢◌, refl, inr, suc, ◌-◌, ◌<◌, get_or, set, length, subst, sym, ◌∙◌, arith, List, ℕ}
use Rattle.std.proofs.lemmas.List.{length-set}
use Rattle.timing_wheel.specs.Times.{idle}
use Rattle.timing_wheel.specs.Links.{Placement}
use Rattle.timing_wheel.proofs.Kept.{IsSchedule-stop_near, IsSchedule-stop_shared, IsSchedule-stop_far}
use Rattle.timing_wheel.proofs.schedule.Schedule.stop.Goals as goal
use Rattle.timing_wheel.proofs.schedule.Schedule.stop.Goals.{then-place-buckets+in-Some, then-place-buckets+in-None, else-place-buckets}

pub invariant_of-self : goal.invariant_of-self
invariant_of-self c =
    let s = c.self.inside in
    let fits : c.args.slot < length s.times.items = subst (λ (times : List ℕ). c.args.slot < length times) (sym c.self.view_is) c.requires.slot in
    let used : get_or s.times.items c.args.slot 0 < idle = subst (λ (times : List ℕ). get_or times c.args.slot 0 < idle) (sym c.self.view_is) c.requires.used in
    let place : get_or s.chains.places c.args.slot 0 ≡ c.place-place.result = sym c.place-place.ensures in
    let lists : s.chains.lists ≡ suc (length s.ticks) = (c.self.invariant.lists (omega arith)).0 in
    let buckets : length s.ticks ≡ c.lists-buckets.result - 1 = omega (arith, c.lists-buckets.ensures) in
    let size : length (set s.chains.places c.args.slot s.chains.lists) ≡ length s.times.items = length-set s.chains.places c.args.slot s.chains.lists ∙ c.self.invariant.places_size in
    elim c.if-place-buckets.branch [
      | then-place-buckets+in-Some w ↦ rw (c.link.ensures, w.self-inside-is, w.unlink.ensures, ← buckets)
          (IsSchedule-stop_shared s.times.items s.chains.places s.ticks s.far s.chains.lists c.args.slot w.in-Some._other c.self.invariant fits used (omega (arith, w.if-place-buckets.true))
          (rw (← size) (subst (λ (p : Placement). w.in-Some._other < length p.places) w.unlink.ensures w.in-Some.ensures.within))
          (subst (λ (p : Placement). get_or p.places w.in-Some._other 0 ≡ c.place-place.result) w.unlink.ensures w.in-Some.ensures.here ∙ sym place))
      | then-place-buckets+in-None w ↦ rw (c.link.ensures, w.self-inside-is, w.unlink.ensures, w.set.ensures, ← buckets, ← place)
          (IsSchedule-stop_near s.times.items s.chains.places s.ticks s.far s.chains.lists c.args.slot idle c.self.invariant fits used (omega (arith, w.if-place-buckets.true))
          (inr (refl, λ other inside here. subst (λ (p : Placement). (k : ℕ) → k < length p.places → get_or p.places k 0 ≢ c.place-place.result) w.unlink.ensures w.in-None.ensures.none other (omega (arith, size)) (here ∙ place))))
      | else-place-buckets w ↦ rw (c.link.ensures, w.self-inside-is, w.set-else-place-buckets.ensures, ← buckets)
          (IsSchedule-stop_far s.times.items s.chains.places s.ticks s.far s.chains.lists c.args.slot c.self.invariant fits used (omega (arith, w.if-place-buckets.false)))
    ]
