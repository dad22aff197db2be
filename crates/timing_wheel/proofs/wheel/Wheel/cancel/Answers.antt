use Rattle.std.proofs.Common.{◌≡◌, ◌<◌, ◌+◌, ℕ, List, length, get_or, set, if◌then◌else◌, refl, subst, arith}
use Rattle.std.proofs.lemmas.List.{length-set}
use Rattle.std.specs.FinMap.{contains_key, remove}
use Rattle.timing_wheel.specs.Index.{NoneHas}
use Rattle.timing_wheel.specs.Times.{idle}
use Rattle.timing_wheel.specs.Wheel.{Pending}
use Rattle.timing_wheel.proofs.Live.{held, count_stop, count_rest}
use Rattle.timing_wheel.proofs.Held.{contains_present, contains_absent, held_cancel, held_unchanged}
use Rattle.timing_wheel.proofs.wheel.Wheel.cancel.Goals as goal

pub overflow_add-self : goal.overflow_add-self
overflow_add-self c =
    let w = c.self.invariant in
    let times = c.self.inside.schedule in
    let fits : c.in-Some.slot < length times = omega (arith, c.in-Some.ensures.within, c.as_slice.ensures.len, w.size) in
    omega (arith, w.size, w.counted, w.small, count_stop times c.in-Some.slot fits (λ e. omega (arith, c.in-Some.ensures.used)), count_rest (set times c.in-Some.slot idle), length-set times c.in-Some.slot idle)

pub returns-in-Some-clause-times : goal.returns-in-Some-clause-times
returns-in-Some-clause-times c =
    let s = c.self.inside in
    let fits : c.in-Some.slot < length s.keys.items = omega (arith, c.in-Some.ensures.within, c.as_slice.ensures.len) in
    let named : get_or s.keys.items c.in-Some.slot 0 ≡ c.args.key = subst (λ (keys : List ℕ). get_or keys c.in-Some.slot 0 ≡ c.args.key) c.as_slice.ensures.value c.in-Some.ensures.key in
    subst (λ (p : Pending). held s.keys.items c.stop.new.self ≡ remove p.times c.args.key) c.self.view_is
    (rw c.stop.ensures (held_cancel s.keys.items s.schedule s.index s.spare c.in-Some.slot c.args.key c.self.invariant fits c.in-Some.ensures.used named))

pub returns-in-Some-clause-spare : goal.returns-in-Some-clause-spare
returns-in-Some-clause-spare c =
    let s = c.self.inside in
    let fits : c.in-Some.slot < length s.keys.items = omega (arith, c.in-Some.ensures.within, c.as_slice.ensures.len) in
    let named : get_or s.keys.items c.in-Some.slot 0 ≡ c.args.key = subst (λ (keys : List ℕ). get_or keys c.in-Some.slot 0 ≡ c.args.key) c.as_slice.ensures.value c.in-Some.ensures.key in
    subst (λ (p : Pending). s.spare + 1 ≡ (if contains_key p.times c.args.key then p.spare + 1 else p.spare)) c.self.view_is
    (rw (contains_present s.keys.items s.schedule s.index s.spare c.in-Some.slot c.args.key c.self.invariant fits c.in-Some.ensures.used named) refl)

pub returns-in_default-clause-times : goal.returns-in_default-clause-times
returns-in_default-clause-times c =
    let s = c.self.inside in
    let absent : NoneHas s.keys.items s.schedule c.args.key = subst (λ (keys : List ℕ). NoneHas keys s.schedule c.args.key) c.as_slice.ensures.value c.in_default.ensures.none in
    subst (λ (p : Pending). p.times ≡ remove p.times c.args.key) c.self.view_is (held_unchanged s.keys.items s.schedule s.index s.spare c.args.key c.self.invariant absent)

pub returns-in_default-clause-spare : goal.returns-in_default-clause-spare
returns-in_default-clause-spare c =
    let s = c.self.inside in
    let absent : NoneHas s.keys.items s.schedule c.args.key = subst (λ (keys : List ℕ). NoneHas keys s.schedule c.args.key) c.as_slice.ensures.value c.in_default.ensures.none in
    subst (λ (p : Pending). p.spare ≡ (if contains_key p.times c.args.key then p.spare + 1 else p.spare)) c.self.view_is
    (rw (contains_absent s.keys.items s.schedule s.index s.spare c.args.key c.self.invariant absent) refl)
