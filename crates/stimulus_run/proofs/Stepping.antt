-- A time step, pass by pass, and the time of a machine.
use Rattle.std.proofs.Common.{◌≡◌, ◌≢◌, ℕ, zero, suc, ◌+◌, ◌-◌, ◌<◌, ◌≤◌, ◌^◌, Bool, true, false, cond, List, [], ◌∷◌, refl, ap, sym, ◌∙◌, subst, arith, inl, inr}
use Rattle.std.specs.Prelude.{Contains, nat_le, ◌||◌, min}
use Rattle.std.specs.List.{list_any}
use Rattle.std.proofs.lemmas.Bool.{cases_lt, le-leb, lt-leb}
use Rattle.level_range.specs.Signal.{Signal}
use Rattle.flat_net.specs.Patches.{Netlist}
use Rattle.cell_step.specs.declared.states.PassEnd.{PassEnd}
use Rattle.cell_step.specs.declared.states.PassEnd.TheVariants.{Quiet, More, Oscillates}
use Rattle.machine.specs.Machine.{Machine, begin}
use Rattle.machine.specs.Pass.{is_machine_due, due_times, one_more, mature, settle, evaluate, first_phase, pass, pass_end, machine_end}
use Rattle.machine.specs.System.{System, machines, further, step, step_at}
use Rattle.machine.proofs.Maturing.{due_times-due}

-- ---- how a pass ends

end-quiet : (due : Bool) (passes limit : ℕ) → pass_end due passes limit ≡ Quiet → due ≡ false
end-quiet false passes limit e = refl
end-quiet true passes limit e = elim (cases_lt passes limit) [
  | inl lt ↦ absurd (let f : More ≡ Quiet = sym (rw (lt-leb limit passes lt) refl) ∙ e in cc)
  | inr ge ↦ absurd (let f : Oscillates ≡ Quiet = sym (rw (le-leb limit passes ge) refl) ∙ e in cc)
]

record IsMore (due : Bool) (passes limit : ℕ) : Type 0 where
  is_due : due ≡ true
  fewer : passes < limit

end-more : (due : Bool) (passes limit : ℕ) → pass_end due passes limit ≡ More → IsMore due passes limit
end-more false passes limit e = absurd (let f : Quiet ≡ More = e in cc)
end-more true passes limit e = elim (cases_lt passes limit) [
  | inl lt ↦ record { is_due = refl; fewer = lt }
  | inr ge ↦ absurd (let f : Oscillates ≡ More = sym (rw (le-leb limit passes ge) refl) ∙ e in cc)
]

record IsLast (due : Bool) (passes limit : ℕ) : Type 0 where
  is_due : due ≡ true
  all : limit ≤ passes

end-oscillates : (due : Bool) (passes limit : ℕ) → pass_end due passes limit ≡ Oscillates → IsLast due passes limit
end-oscillates false passes limit e = absurd (let f : Quiet ≡ Oscillates = e in cc)
end-oscillates true passes limit e = elim (cases_lt passes limit) [
  | inl lt ↦ absurd (let f : More ≡ Oscillates = sym (rw (lt-leb limit passes lt) refl) ∙ e in cc)
  | inr ge ↦ record { is_due = refl; all = ge }
]

-- ---- the step

module _ (netlist : Netlist) (limit : ℕ) where
  abbrev system : System Machine
  system = machines netlist

  further-quiet : (left : ℕ) (m : Machine) → is_machine_due m ≡ false → further system left m ≡ m
  unfolding further
  further-quiet zero m e = refl
  further-quiet (suc left) m e = ap (λ (b : Bool). cond b (further system left (pass netlist m)) m) e

  further-none : (m : Machine) → further system 0 m ≡ m
  unfolding further
  further-none m = refl

  further-due : (left : ℕ) (m : Machine) → is_machine_due m ≡ true → further system (suc left) m ≡ further system left (pass netlist m)
  unfolding further
  further-due left m e = ap (λ (b : Bool). cond b (further system left (pass netlist m)) m) e

  -- a machine from which a further pass and as many as are left then make the step
  pub record IsStepping (whole m : Machine) : Type 0 where
    pub fewer : m.passes < limit
    pub rest : further system (limit - 1 - m.passes) (pass netlist m) ≡ whole

  pub stepping-start : (m : Machine) → m.passes ≡ 0 → 1 ≤ limit → IsStepping (step system limit m) m
  unfolding step
  stepping-start m none some = record {
    fewer = omega arith;
    rest = ap (λ (n : ℕ). further system n (pass netlist m)) (let e : limit - 1 - m.passes ≡ limit - 1 = omega arith in e);
  }

  pass-count : (m : Machine) → (pass netlist m).passes ≡ one_more m.passes
  unfolding pass
  pass-count m = refl

  count-more : (passes : ℕ) → passes < limit → limit ≤ 2 ^ 32 - 1 → one_more passes ≡ passes + 1
  count-more passes fewer small = omega arith

  pub stepping-more : (whole m : Machine) → limit ≤ 2 ^ 32 - 1 → IsStepping whole m → machine_end limit (pass netlist m) ≡ More → IsStepping whole (pass netlist m)
  stepping-more whole m small is e =
      let more = end-more (is_machine_due (pass netlist m)) (pass netlist m).passes limit e in
      let count : (pass netlist m).passes ≡ m.passes + 1 = pass-count m ∙ count-more m.passes is.fewer small in
      let left : limit - 1 - m.passes ≡ suc (limit - 1 - (pass netlist m).passes) = (let lt = more.fewer in omega arith) in
      record {
        fewer = more.fewer;
        rest =
            sym (ap (λ (n : ℕ). further system n (pass netlist m)) left
            ∙ further-due (limit - 1 - (pass netlist m).passes) (pass netlist m) more.is_due)
            ∙ is.rest;
      }

  pub stepping-quiet : (whole m : Machine) → IsStepping whole m → machine_end limit (pass netlist m) ≡ Quiet →
      (pass netlist m ≡ whole) × (is_machine_due (pass netlist m) ≡ false)
  stepping-quiet whole m is e =
      let quiet = end-quiet (is_machine_due (pass netlist m)) (pass netlist m).passes limit e in
      (sym (further-quiet (limit - 1 - m.passes) (pass netlist m) quiet) ∙ is.rest, quiet)

  pub stepping-oscillates : (whole m : Machine) → limit ≤ 2 ^ 32 - 1 → IsStepping whole m → machine_end limit (pass netlist m) ≡ Oscillates →
      (pass netlist m ≡ whole) × (is_machine_due (pass netlist m) ≡ true)
  stepping-oscillates whole m small is e =
      let last = end-oscillates (is_machine_due (pass netlist m)) (pass netlist m).passes limit e in
      let count : (pass netlist m).passes ≡ m.passes + 1 = pass-count m ∙ count-more m.passes is.fewer small in
      let left : limit - 1 - m.passes ≡ 0 = (let le = last.all in omega arith) in
      (sym (ap (λ (n : ℕ). further system n (pass netlist m)) left ∙ further-none (pass netlist m)) ∙ is.rest, last.is_due)

  -- what is left to do gets less
  pub stepping-falls : (whole m : Machine) → limit ≤ 2 ^ 32 - 1 → IsStepping whole m → machine_end limit (pass netlist m) ≡ More →
      limit - (pass netlist m).passes < limit - m.passes
  stepping-falls whole m small is e =
      let count : (pass netlist m).passes ≡ m.passes + 1 = pass-count m ∙ count-more m.passes is.fewer small in
      let lt = is.fewer in omega arith

-- ---- the time of a machine

pass-time : (netlist : Netlist) (m : Machine) → (pass netlist m).time ≡ m.time
unfolding pass evaluate first_phase settle mature
pass-time netlist m = refl

further-time : (netlist : Netlist) (left : ℕ) (m : Machine) → (further (machines netlist) left m).time ≡ m.time
unfolding further
further-time netlist zero m = refl
further-time netlist (suc left) m = by_test (is_machine_due m) (further-time netlist left (pass netlist m) ∙ pass-time netlist m)
  where
    by_test : (b : Bool) → (further (machines netlist) left (pass netlist m)).time ≡ m.time →
        (cond b (further (machines netlist) left (pass netlist m)) m).time ≡ m.time
    by_test true e = e
    by_test false e = refl

pub step_at-time : (netlist : Netlist) (limit tick : ℕ) (inputs : List Signal) (m : Machine) →
    (step_at (machines netlist) limit tick inputs m).time ≡ tick
unfolding step
step_at-time netlist limit tick inputs m =
    further-time netlist (limit - 1) (pass netlist (begin tick inputs m)) ∙ pass-time netlist (begin tick inputs m)

none-past : (now : ℕ) (times : List ℕ) (t : ℕ) → list_any (λ at. nat_le at now) times ≡ false → Contains times t → now < t
none-past now [] t e there = absurd (let lt = there.1 in omega arith)
none-past now (x ∷ xs) t e (zero, lt, is) = elim (cases_lt now x) [
  | inl late ↦ omega arith
  | inr soon ↦ absurd (let f : true ≡ false = sym (rw (le-leb x now soon) refl) ∙ e in cc)
]
none-past now (x ∷ xs) t e (suc k, lt, is) = none-past now xs t (rest (nat_le x now) e) (k, omega arith, is)
  where
    rest : (b : Bool) → b || list_any (λ at. nat_le at now) xs ≡ false → list_any (λ at. nat_le at now) xs ≡ false
    rest true f = absurd (let g : true ≡ false = f in cc)
    rest false f = f

-- where nothing is due all due times are later
pub due-later : (m : Machine) (tick : ℕ) → m.time ≡ tick → is_machine_due m ≡ false → (t : ℕ) → Contains (due_times m) t → tick < t
due-later m tick time quiet t there =
    let lt = none-past m.time (due_times m) t (due_times-due m ∙ quiet) there in omega arith
