use Rattle.std.proofs.Common.{◌≡◌, true, ◌⊎◌, inl, inr, ◌<◌, ◌-◌, ℕ, List, length, get_or, set, if◌then◌else◌, refl, sym, subst, arith}
use Rattle.std.specs.FinMap.{contains_key, insert}
use Rattle.timing_wheel.specs.Index.{IsIndexed, NoneHas}
use Rattle.timing_wheel.specs.Wheel.{Pending}
use Rattle.timing_wheel.proofs.Live.{held, none_rests}
use Rattle.timing_wheel.proofs.Held.{contains_present, contains_absent, held_again, held_add, indexed_add, IsWheel-again}
use Rattle.timing_wheel.proofs.wheel.Wheel.put.Goals as goal

pub invariant_of-self : goal.invariant_of-self
invariant_of-self c =
    let s = c.self.inside in
    let w = c.self.invariant in
    let fits : c.in-Some.known < length s.schedule = omega (arith, c.in-Some.ensures.within, c.as_slice.ensures.len, w.size) in
    rw (c.start.ensures, c.stop.ensures) (IsWheel-again s.keys.items s.schedule s.index s.spare c.in-Some.known c.args.at w fits c.in-Some.ensures.used (omega (arith, c.requires.time)))

pub returns-in-Some-clause-times : goal.returns-in-Some-clause-times
returns-in-Some-clause-times c =
    let s = c.self.inside in
    let w = c.self.invariant in
    let fits : c.in-Some.known < length s.keys.items = omega (arith, c.in-Some.ensures.within, c.as_slice.ensures.len) in
    let named : get_or s.keys.items c.in-Some.known 0 ≡ c.args.key = subst (λ (keys : List ℕ). get_or keys c.in-Some.known 0 ≡ c.args.key) c.as_slice.ensures.value c.in-Some.ensures.key in
    subst (λ (p : Pending). held s.keys.items c.start.new.self ≡ insert p.times c.args.key c.args.at) c.self.view_is
    (rw (c.start.ensures, c.stop.ensures) (held_again s.keys.items s.schedule s.index s.spare c.in-Some.known c.args.key c.args.at w fits c.in-Some.ensures.used named (omega (arith, c.requires.time))))

pub returns-in-Some-clause-spare : goal.returns-in-Some-clause-spare
returns-in-Some-clause-spare c =
    let s = c.self.inside in
    let w = c.self.invariant in
    let fits : c.in-Some.known < length s.keys.items = omega (arith, c.in-Some.ensures.within, c.as_slice.ensures.len) in
    let named : get_or s.keys.items c.in-Some.known 0 ≡ c.args.key = subst (λ (keys : List ℕ). get_or keys c.in-Some.known 0 ≡ c.args.key) c.as_slice.ensures.value c.in-Some.ensures.key in
    subst (λ (p : Pending). s.spare ≡ (if contains_key p.times c.args.key then p.spare else p.spare - 1)) c.self.view_is
    (rw (contains_present s.keys.items s.schedule s.index s.spare c.in-Some.known c.args.key w fits c.in-Some.ensures.used named) refl)

pub returns-in-Some-idle_slot-clause-times : goal.returns-in-Some-idle_slot-clause-times
returns-in-Some-idle_slot-clause-times c =
    let s = c.self.inside in
    let w = c.self.invariant in
    let absent : NoneHas s.keys.items s.schedule c.args.key = subst (λ (keys : List ℕ). NoneHas keys s.schedule c.args.key) c.as_slice.ensures.value c.in-None.ensures.none in
    let slot = c.in-Some-idle_slot.slot in
    let fits : slot < length s.keys.items = omega (arith, c.in-Some-idle_slot.ensures.within, w.size) in
    let indexed : IsIndexed c.remember.new.index s.keys.items s.schedule = subst (λ (keys : List ℕ). IsIndexed c.remember.new.index keys s.schedule) c.as_slice-in-Some-idle_slot.ensures.value c.remember.ensures.indexed in
    subst (λ (p : Pending). held (set s.keys.items slot c.args.key) c.start-in-Some-idle_slot.new.self ≡ insert p.times c.args.key c.args.at) c.self.view_is
    (rw c.start-in-Some-idle_slot.ensures
    (held_add s.keys.items s.schedule s.index c.remember.new.index s.spare slot c.args.key c.args.at w fits c.in-Some-idle_slot.ensures.idle absent (omega (arith, c.requires.time))
    (indexed_add c.remember.new.index s.keys.items s.schedule slot c.args.key c.args.at w.size fits indexed c.remember.ensures.here)))

pub returns-in-Some-idle_slot-clause-spare : goal.returns-in-Some-idle_slot-clause-spare
returns-in-Some-idle_slot-clause-spare c =
    let s = c.self.inside in
    let w = c.self.invariant in
    let absent : NoneHas s.keys.items s.schedule c.args.key = subst (λ (keys : List ℕ). NoneHas keys s.schedule c.args.key) c.as_slice.ensures.value c.in-None.ensures.none in
    subst (λ (p : Pending). s.spare - 1 ≡ (if contains_key p.times c.args.key then p.spare else p.spare - 1)) c.self.view_is
    (rw (contains_absent s.keys.items s.schedule s.index s.spare c.args.key w absent) refl)

-- a new key comes only where a slot isn't in use
no_room : (c : goal.In_default) → ⊥
no_room c =
    let s = c.self.inside in
    let w = c.self.invariant in
    let absent : NoneHas s.keys.items s.schedule c.args.key = subst (λ (keys : List ℕ). NoneHas keys s.schedule c.args.key) c.as_slice.ensures.value c.in-None.ensures.none in
    let room = subst (λ (p : Pending). (contains_key p.times c.args.key ≡ true) ⊎ (0 < p.spare)) (sym c.self.view_is) c.requires.room in
    elim room [
      | inl there ↦ (let none = contains_absent s.keys.items s.schedule s.index s.spare c.args.key w absent in cc)
      | inr some ↦ omega (arith, w.counted, none_rests s.schedule c.in_default.ensures.none)
    ]

pub returns-in_default-clause-times : goal.returns-in_default-clause-times
returns-in_default-clause-times c = absurd (no_room c)

pub returns-in_default-clause-spare : goal.returns-in_default-clause-spare
returns-in_default-clause-spare c = absurd (no_room c)
