-- What passes and times do to a machine that others don't need: nothing but to its time and its number of passes.
use Rattle.std.proofs.Common.{◌≡◌, ◌⊎◌, ℕ, zero, suc, ◌+◌, ◌-◌, ◌<◌, ◌≤◌, Bool, true, false, List, refl, ap, sym, ◌∙◌, subst, inl, inr, arith}
use Rattle.std.specs.Prelude.{Contains, nat_le}
use Rattle.std.proofs.lemmas.Bool.{cases_lt, lt-leb, le-leb, true≢false}
use Rattle.std.proofs.lemmas.List.Elements.{Contains-append_right, Contains-get_or}
use Rattle.std.proofs.lemmas.List.Folds.{list_any_none, list_any_at}
use Rattle.level_range.specs.Signal.{Signal}
use Rattle.flat_net.specs.Patches.{Netlist}
use Rattle.flat_net.specs.Soundness.{IsSound}
use Rattle.cell_step.specs.declared.states.CellState.{CellState}
use Rattle.cell_step.specs.Fitting.{HasAcceptedPrimitives}
use Rattle.machine.specs.Machine.{Machine, begin}
use Rattle.machine.specs.Pass.{is_machine_due, due_times, one_more, mature, settle, evaluate, first_phase, pass}
use Rattle.machine.specs.Sound.{AreInputs, IsMachine}
use Rattle.machine.specs.Idle.{SameButTime, IsIdle}
use Rattle.machine.specs.System.{System, repeat_pass, step, machines}
use Rattle.machine.specs.Run.{Schedule, IsNextTick, IsLastTick, outputs_seen}
use Rattle.machine.proofs.Maturing.{due_times-due}
use Rattle.machine.proofs.Machines.{begin-is_machine}
use Rattle.machine.proofs.Steps.{step-is}
use Rattle.machine.proofs.MachineRuns.{pass-idle, step-is_machine}

-- ---- machines that are the same but for their times

pub same-itself : (m : Machine) → SameButTime m m
same-itself m = record { has_passed = refl; last_inputs = refl; cells = refl }

pub same-chain : (a b c : Machine) → SameButTime a b → SameButTime b c → SameButTime a c
same-chain a b c first second = record {
  has_passed = first.has_passed ∙ second.has_passed;
  last_inputs = first.last_inputs ∙ second.last_inputs;
  cells = first.cells ∙ second.cells;
}

-- they begin a time as one machine
pub begin-same : (a b : Machine) (time : ℕ) (inputs : List Signal) → SameButTime a b → begin time inputs a ≡ begin time inputs b
begin-same a b time inputs same = parts a.has_passed b.has_passed a.last_inputs b.last_inputs a.cells b.cells same.has_passed same.last_inputs same.cells
  where
    parts : (p q : Bool) (l k : List Signal) (c d : List CellState) → p ≡ q → l ≡ k → c ≡ d →
        (let m : Machine = record { time = time; passes = 0; has_passed = p; inputs = inputs; last_inputs = l; cells = c } in m)
        ≡ record { time = time; passes = 0; has_passed = q; inputs = inputs; last_inputs = k; cells = d }
    parts p q l k c d e f g = cc

pub due_times-same : (a b : Machine) → SameButTime a b → due_times a ≡ due_times b
unfolding due_times
due_times-same a b same = ap (λ (cells : List CellState). due_times (record a { cells = cells })) same.cells

pub outputs-same : (netlist : Netlist) (a b : Machine) → SameButTime a b → outputs_seen netlist a ≡ outputs_seen netlist b
outputs-same netlist a b same = ap (λ (cells : List CellState). outputs_seen netlist (record a { cells = cells })) same.cells

-- ---- passes of an idle machine

idle-again : (netlist : Netlist) (m : Machine) → IsIdle netlist m → IsIdle netlist (record m { passes = one_more m.passes })
unfolding is_machine_due
idle-again netlist m is = record {
  machine = record {
    count = is.machine.count;
    fits = is.machine.fits;
    signals = is.machine.signals;
    inputs = is.machine.inputs;
    last_inputs = is.machine.last_inputs;
    rests = is.machine.rests;
  };
  passed = is.passed;
  quiet = is.quiet;
  inputs = is.inputs;
}

idle-pass : (netlist : Netlist) (m : Machine) → IsIdle netlist m → pass netlist m ≡ record m { passes = one_more m.passes }
idle-pass netlist m is = pass-idle netlist m is.machine is.passed is.quiet is.inputs

pub repeat_pass-idle : (netlist : Netlist) (count : ℕ) (m : Machine) → IsIdle netlist m →
    SameButTime (repeat_pass (machines netlist) count m) m × IsIdle netlist (repeat_pass (machines netlist) count m)
unfolding repeat_pass
repeat_pass-idle netlist zero m is = (same-itself m, is)
repeat_pass-idle netlist (suc count) m is =
    let one : Machine = record m { passes = one_more m.passes } in
    let e : pass netlist m ≡ one = idle-pass netlist m is in
    let rest = repeat_pass-idle netlist count (pass netlist m) (subst (IsIdle netlist) (sym e) (idle-again netlist m is)) in (
      same-chain (repeat_pass (machines netlist) count (pass netlist m)) (pass netlist m) m rest.0
          (subst (λ (n : Machine). SameButTime n m) (sym e) (record { has_passed = refl; last_inputs = refl; cells = refl })),
      rest.1,
    )

-- ---- a time at which the machine has nothing to do

pub begin-idle : (netlist : Netlist) (m : Machine) (time : ℕ) (inputs : List Signal) → IsMachine netlist m → m.has_passed ≡ true →
    inputs ≡ m.last_inputs → is_machine_due (begin time inputs m) ≡ false → IsIdle netlist (begin time inputs m)
begin-idle netlist m time inputs machine passed same quiet = record {
  machine = begin-is_machine netlist m time inputs machine (subst (AreInputs netlist.parts) (sym same) machine.last_inputs);
  passed = passed;
  quiet = quiet;
  inputs = same;
}

-- passes that are made then leave it the same
pub begin-still : (netlist : Netlist) (m : Machine) (time count : ℕ) (inputs : List Signal) → IsMachine netlist m → m.has_passed ≡ true →
    inputs ≡ m.last_inputs → is_machine_due (begin time inputs m) ≡ false →
    SameButTime (repeat_pass (machines netlist) count (begin time inputs m)) m
begin-still netlist m time count inputs machine passed same quiet =
    same-chain (repeat_pass (machines netlist) count (begin time inputs m)) (begin time inputs m) m
    (repeat_pass-idle netlist count (begin time inputs m) (begin-idle netlist m time inputs machine passed same quiet)).0
    (record { has_passed = refl; last_inputs = refl; cells = refl })

-- ---- nothing is due before the next tick

-- a due time of a machine in which nothing is due is later than its time
due-later : (m : Machine) → is_machine_due m ≡ false → (at : ℕ) → Contains (due_times m) at → m.time < at
due-later m quiet at (k, lt, is) = elim (cases_lt m.time at) [
  | inl later ↦ later
  | inr early ↦
      absurd (true≢false
      (sym (list_any_at (λ t. nat_le t m.time) (due_times m) k at lt (ap (λ (t : ℕ). nat_le t m.time) is ∙ le-leb at m.time early))
      ∙ due_times-due m ∙ quiet))
]

not-due : (m : Machine) (time : ℕ) (inputs : List Signal) → ((at : ℕ) → Contains (due_times m) at → time < at) → is_machine_due (begin time inputs m) ≡ false
unfolding due_times
not-due m time inputs later =
    sym (due_times-due (begin time inputs m))
    ∙ list_any_none (λ t. nat_le t time) (due_times m)
    (λ k d lt. lt-leb _ _ (later _ (Contains-get_or (due_times m) k d lt)))

pub quiet-before : (schedule : Schedule) (m : Machine) (next time : ℕ) (inputs : List Signal) → is_machine_due m ≡ false →
    IsNextTick schedule m.time (due_times m) next → time < next → is_machine_due (begin time inputs m) ≡ false
quiet-before schedule m next time inputs quiet is before =
    not-due m time inputs
    (λ at listed.
    elim (cases_lt time at) [
      | inl later ↦ later
      | inr early ↦
          let first = is.first at (Contains-append_right schedule.times (due_times m) at listed) (due-later m quiet at listed)
          (let e = is.ended in omega arith) in
          absurd (omega arith)
    ])

pub quiet-after : (schedule : Schedule) (m : Machine) (time : ℕ) (inputs : List Signal) → is_machine_due m ≡ false →
    IsLastTick schedule m.time (due_times m) → time ≤ schedule.end → is_machine_due (begin time inputs m) ≡ false
quiet-after schedule m time inputs quiet last within =
    not-due m time inputs
    (λ at listed.
    let past = last at (Contains-append_right schedule.times (due_times m) at listed) (due-later m quiet at listed) in omega arith)

-- ---- passes beyond those of the machine's own step

module _ {M : Type 0} (system : System M) where
  pub repeat_pass-more : (a b : ℕ) (m : M) → repeat_pass system (a + b) m ≡ repeat_pass system b (repeat_pass system a m)
  unfolding repeat_pass
  repeat_pass-more zero b m = let e : 0 + b ≡ b = omega arith in ap (λ (k : ℕ). repeat_pass system k m) e
  repeat_pass-more (suc a) b m =
      let e : suc a + b ≡ suc (a + b) = omega arith in
      ap (λ (k : ℕ). repeat_pass system k m) e ∙ repeat_pass-more a b (system.pass m)

  -- as many passes as leave nothing due are at least those of the step
  pub quiet-count : (limit count : ℕ) (m : M) → system.is_due (repeat_pass system (suc count) m) ≡ false → (step-is system limit m).count ≤ count
  unfolding repeat_pass
  quiet-count limit count m quiet = elim (cases_lt count (step-is system limit m).count) [
    | inl fewer ↦ absurd (true≢false (sym ((step-is system limit m).due count fewer) ∙ quiet))
    | inr enough ↦ enough
  ]

  -- where a step oscillates, something is due after each of as many passes as the limit
  pub oscillation-due : (limit count : ℕ) (m : M) → count ≤ limit - 1 → system.is_due (step system limit m) ≡ true →
      system.is_due (repeat_pass system (suc count) m) ≡ true
  unfolding repeat_pass
  oscillation-due limit count m most due = by_stop (step-is system limit m).stops
    where
      by_stop : (system.is_due (step system limit m) ≡ false) ⊎ ((step-is system limit m).count ≡ limit - 1) →
          system.is_due (repeat_pass system count (system.pass m)) ≡ true
      by_stop (inl quiet) = absurd (true≢false (sym due ∙ quiet))
      by_stop (inr all) = elim (cases_lt count (limit - 1)) [
        | inl fewer ↦ (step-is system limit m).due count (omega arith)
        | inr last ↦
            let e : count ≡ (step-is system limit m).count = omega arith in
            ap (λ (k : ℕ). system.is_due (repeat_pass system k (system.pass m))) e
            ∙ sym (ap system.is_due (step-is system limit m).made) ∙ due
      ]

-- after a pass the inputs in force are those of the last
HasPassed : Machine → Type 0
HasPassed m = (m.has_passed ≡ true) × (m.inputs ≡ m.last_inputs)

pass-passed : (netlist : Netlist) (m : Machine) → HasPassed (pass netlist m)
unfolding HasPassed pass evaluate first_phase settle mature
pass-passed netlist m = (refl, refl)

repeat_pass-passed : (netlist : Netlist) (count : ℕ) (m : Machine) → HasPassed m → HasPassed (repeat_pass (machines netlist) count m)
unfolding repeat_pass
repeat_pass-passed netlist zero m h = h
repeat_pass-passed netlist (suc count) m h = repeat_pass-passed netlist count (pass netlist m) (pass-passed netlist m)

step-passed : (netlist : Netlist) (limit : ℕ) (m : Machine) → HasPassed (step (machines netlist) limit m)
step-passed netlist limit m =
    let made = step-is (machines netlist) limit m in
    subst HasPassed (sym made.made) (repeat_pass-passed netlist made.count (pass netlist m) (pass-passed netlist m))

-- the machine after its own step is the one after more passes, where both leave nothing due
pub step-same : (netlist : Netlist) → IsSound netlist.parts → HasAcceptedPrimitives netlist.parts → (limit count : ℕ) (m : Machine) → IsMachine netlist m →
    is_machine_due (step (machines netlist) limit m) ≡ false → is_machine_due (repeat_pass (machines netlist) (suc count) m) ≡ false →
    SameButTime (repeat_pass (machines netlist) (suc count) m) (step (machines netlist) limit m)
unfolding repeat_pass HasPassed
step-same netlist sound accepted limit count m machine ended quiet =
    let system : System Machine = machines netlist in
    let made = step-is system limit m in
    let enough = quiet-count system limit count m quiet in
    let more : ℕ = count - made.count in
    let after : Machine = step system limit m in
    let passed = step-passed netlist limit m in
    let e : repeat_pass system count (pass netlist m) ≡ repeat_pass system more after =
    ap (λ (k : ℕ). repeat_pass system k (pass netlist m)) (let same : count ≡ made.count + more = omega arith in same)
    ∙ repeat_pass-more system made.count more (pass netlist m)
    ∙ ap (repeat_pass system more) (sym made.made) in
    let idle : IsIdle netlist after = record {
      machine = step-is_machine netlist sound accepted limit m machine;
      passed = passed.0;
      quiet = ended;
      inputs = passed.1;
    } in
    subst (λ (n : Machine). SameButTime n after) (sym e) (repeat_pass-idle netlist more after idle).0
