use Rattle.std.proofs.Common.{◌≡◌, ◌<◌, length, get_or, set, sym, subst, ◌∙◌, arith}
use Rattle.std.proofs.lemmas.List.{length-set, get_or_default}
use Rattle.std.specs.FinMap.{remove}
use Rattle.timing_wheel.specs.Times.{idle}
use Rattle.timing_wheel.specs.Wheel.{Pending, NoneDue, IsLeastDue}
use Rattle.timing_wheel.proofs.Live.{held, count_stop, count_rest, get_present, apart_of}
use Rattle.timing_wheel.proofs.Held.{least_held, none_held, none_idle, held_cancel}
use Rattle.timing_wheel.proofs.wheel.Wheel.take_one.Goals as goal

pub returns-in_err-slot-clause-none : goal.returns-in_err-slot-clause-none
returns-in_err-slot-clause-none c =
    let s = c.self.inside in
    let w = c.self.invariant in
    rw c.from_residual.ensures
    (subst (λ (p : Pending). NoneDue p.times c.args.t) c.self.view_is (none_idle s.keys.items s.schedule s.index s.spare c.args.t w c.in_err-slot.ensures.none))

pub returns-then-time-t-clause-none : goal.returns-then-time-t-clause-none
returns-then-time-t-clause-none c =
    let s = c.self.inside in
    let w = c.self.invariant in
    subst (λ (p : Pending). NoneDue p.times c.args.t) c.self.view_is
    (none_held s.keys.items s.schedule s.index s.spare (get_or s.schedule c.in_ok-slot.slot 0) c.args.t w c.in_ok-slot.ensures.least (omega (arith, c.time.ensures, c.if-time-t.true)))

pub overflow_add-self : goal.overflow_add-self
overflow_add-self c =
    let w = c.self.invariant in
    let times = c.self.inside.schedule in
    omega (arith, w.size, w.counted, w.small, count_stop times c.in_ok-slot.slot c.in_ok-slot.ensures.within (λ e. omega (arith, c.in_ok-slot.ensures.used)), count_rest (set times c.in_ok-slot.slot idle), length-set times c.in_ok-slot.slot idle)

pub returns-clause-taken : goal.returns-clause-taken
returns-clause-taken c =
    let s = c.self.inside in
    let w = c.self.invariant in
    let fits : c.in_ok-slot.slot < length s.keys.items = omega (arith, c.in_ok-slot.ensures.within, w.size) in
    let key_is : get_or s.keys.items c.in_ok-slot.slot 0 ≡ c.index.result.now = sym (c.index.ensures ∙ get_or_default s.keys.items c.in_ok-slot.slot _ 0 fits) in
    subst (λ (p : Pending). IsLeastDue p.times c.args.t c.index.result.now) c.self.view_is (
      get_or s.schedule c.in_ok-slot.slot 0,
      get_present s.keys.items s.schedule c.index.result.now c.in_ok-slot.slot w.size (apart_of s.index s.keys.items s.schedule w.indexed) (fits, (λ e. omega (arith, c.in_ok-slot.ensures.used)), key_is),
      omega (arith, c.time.ensures, c.if-time-t.false),
      least_held s.keys.items s.schedule s.index s.spare (get_or s.schedule c.in_ok-slot.slot 0) w c.in_ok-slot.ensures.least c.in_ok-slot.ensures.used,
    )

pub returns-clause-times : goal.returns-clause-times
returns-clause-times c =
    let s = c.self.inside in
    let w = c.self.invariant in
    let fits : c.in_ok-slot.slot < length s.keys.items = omega (arith, c.in_ok-slot.ensures.within, w.size) in
    let key_is : get_or s.keys.items c.in_ok-slot.slot 0 ≡ c.index.result.now = sym (c.index.ensures ∙ get_or_default s.keys.items c.in_ok-slot.slot _ 0 fits) in
    subst (λ (p : Pending). held s.keys.items c.stop.new.self ≡ remove p.times c.index.result.now) c.self.view_is
    (rw c.stop.ensures (held_cancel s.keys.items s.schedule s.index s.spare c.in_ok-slot.slot c.index.result.now w fits c.in_ok-slot.ensures.used key_is))
