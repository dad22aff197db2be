-- How far a run has come after its next step.
use Rattle.std.proofs.Common.{◌≡◌, ℕ, ◌+◌, ◌<◌, ◌≤◌, Bool, true, false, cond, List, length, take, get_or, Option, Some, None, refl, ap, sym, ◌∙◌, subst, arith}
use Rattle.std.specs.Prelude.{map, Contains, slice_index_or}
use Rattle.std.proofs.lemmas.List.{get_or-map, length-map, get_or_default}
use Rattle.std.proofs.lemmas.List.Elements.{Contains-append_left}
use Rattle.level_range.specs.declared.range.Logic.{Logic}
use Rattle.level_range.specs.Signal.{Signal, undriven}
use Rattle.flat_net.specs.declared.parts.Parts.{Parts}
use Rattle.flat_net.specs.Patches.{Netlist}
use Rattle.flat_net.specs.Soundness.{IsSound}
use Rattle.cell_step.proofs.Mapping.{map-agree}
use Rattle.machine.specs.Machine.{Machine, begin, input_among}
use Rattle.machine.specs.Pass.{is_machine_due, due_times}
use Rattle.machine.specs.System.{machines, step, step_at}
use Rattle.machine.specs.Run.{next_tick, least}
use Rattle.machine.proofs.Ticks.{next_tick-is}
use Rattle.plain_sim.specs.Plain.{PlainMachine, with_machine}
use Rattle.vector_text.specs.declared.stimulus.StimulusWhat.TheVariants.{Strobe}
use Rattle.vector_text.specs.declared.stimulus.StimulusLine.{StimulusLine}
use Rattle.vector_text.specs.declared.stimulus.Stimulus.{Stimulus}
use Rattle.vector_text.specs.Lawful.{IsLawful}
use Rattle.stimulus_run.specs.declared.step_end.StepEnd.{StepEnd}
use Rattle.stimulus_run.specs.declared.step_end.StepEnd.TheVariants.{Ended, Oscillates}
use Rattle.stimulus_run.specs.Inputs.{schedule_of, inputs_at, listed_signals, last_values, values_at}
use Rattle.stimulus_run.specs.Lines.{AreBefore, AreUpTo, AreForcedByLines, IsAhead}
use Rattle.stimulus_run.specs.Progress.{Progress, machine_after, tick_after, after_end, after_oscillation, step_by, end_by, progress_after, step_end, rest_of, run_with}
use Rattle.stimulus_run.specs.Ticks.{time_after, earlier_up_to}
use Rattle.stimulus_run.proofs.Rest.{rest-step}
use Rattle.stimulus_run.proofs.Filtering.{up_to-first}
use Rattle.stimulus_run.proofs.Lawful.{times-rise}
use Rattle.stimulus_run.proofs.NextTicks.{next-by_lines, line-listed}
use Rattle.stimulus_run.proofs.Stepping.{step_at-time, due-later}

-- stands for a line where there is none
no_line : StimulusLine
no_line = record { time = 0; what = Strobe }

-- ---- inputs

-- the signals at the nets of the inputs are those in force at the tick
pub inputs-are : (parts : Parts) → IsSound parts → (stimulus : Stimulus) (at tick : ℕ) (forced : List Signal) → AreUpTo stimulus.lines at tick →
    AreForcedByLines stimulus at forced → length forced ≡ length parts.nets →
    map (λ net. slice_index_or forced net undriven) parts.inputs ≡ inputs_at parts stimulus tick
inputs-are parts sound stimulus at tick forced done are size =
    map-agree (λ net. slice_index_or forced net undriven)
    (input_among stimulus.inputs (listed_signals (length stimulus.inputs) (last_values (take at stimulus.lines)))) parts.inputs
    (λ k d lt. are (get_or parts.inputs k d) (let w = sound.inputs.within k d lt in omega arith))
    ∙ ap (λ (l : List StimulusLine). map (input_among stimulus.inputs (listed_signals (length stimulus.inputs) (last_values l))) parts.inputs)
    (sym (up_to-first stimulus.lines at tick no_line done))

-- ---- the step

abbrev pub plain_of : Progress → PlainMachine
plain_of p = record { netlist = p.netlist; limit = p.limit; machine = p.machine }

-- a time begins, and a step is made
pub step-made : (p : Progress) (tick : ℕ) (begun made : PlainMachine) (inputs : List Signal) → inputs ≡ inputs_at p.netlist.parts p.stimulus tick →
    begun ≡ with_machine (plain_of p) (begin tick inputs p.machine) →
    made ≡ with_machine begun (step (machines begun.netlist) begun.limit begun.machine) →
    made ≡ with_machine (plain_of p) (machine_after p tick)
step-made p tick begun made inputs same first second =
    second
    ∙ ap (λ (q : PlainMachine). with_machine q (step (machines q.netlist) q.limit q.machine)) first
    ∙ ap (λ (l : List Signal). with_machine (plain_of p) (step_at (machines p.netlist) p.limit tick l p.machine)) same

-- the same, by the lists that are passed on
pub step-from : (flat : Netlist) → IsSound flat.parts → (p : Progress) → p.netlist ≡ flat → (tick at : ℕ) → AreUpTo p.stimulus.lines at tick →
    (forced : List Signal) → AreForcedByLines p.stimulus at forced → length forced ≡ length flat.parts.nets →
    (nets : List ℕ) → nets ≡ flat.parts.inputs → (read : List Signal) → read ≡ forced →
    (gathered : List Signal) → gathered ≡ map (λ net. slice_index_or read net undriven) nets →
    (inputs : List Signal) → inputs ≡ gathered → (begun made : PlainMachine) →
    begun ≡ with_machine (plain_of p) (begin tick inputs p.machine) →
    made ≡ with_machine begun (step (machines begun.netlist) begun.limit begun.machine) →
    made ≡ with_machine (plain_of p) (machine_after p tick)
step-from flat sound p same tick at done forced are size nets listed read is gathered all inputs whole begun made first second =
    step-made p tick begun made inputs
    (whole ∙ all
    ∙ ap (λ (l : List Signal). map (λ net. slice_index_or l net undriven) nets) is
    ∙ ap (map (λ net. slice_index_or forced net undriven)) listed
    ∙ inputs-are flat.parts sound p.stimulus at tick forced done are size
    ∙ ap (λ (n : Netlist). inputs_at n.parts p.stimulus tick) (sym same))
    first second

module _ (p : Progress) (tick : ℕ) (made : PlainMachine) (there : p.next ≡ Some tick)
    (is : made ≡ with_machine (plain_of p) (machine_after p tick)) where
  abbrev of : PlainMachine → Option ℕ → Option ℕ → Progress
  of q ended next = record { netlist = q.netlist; limit = q.limit; stimulus = p.stimulus; machine = q.machine; ended = ended; next = next }

  machine-is : made.machine ≡ machine_after p tick
  machine-is = ap (λ (q : PlainMachine). q.machine) is

  choose : {T : Type 0} (x y : T) (b : Bool) → is_machine_due made.machine ≡ b → cond (is_machine_due (machine_after p tick)) x y ≡ cond b x y
  choose x y b e = ap (λ (d : Bool). cond d x y) (sym (ap is_machine_due machine-is) ∙ e)

  pub oscillated-progress : is_machine_due made.machine ≡ true → of made None None ≡ progress_after p
  oscillated-progress due =
      ap (λ (q : PlainMachine). of q None None) is
      ∙ sym (choose (after_oscillation p (machine_after p tick)) (after_end p tick (machine_after p tick)) true due)
      ∙ sym (ap (step_by p) there)

  pub oscillated-end : is_machine_due made.machine ≡ true → Oscillates tick ≡ step_end p
  oscillated-end due = sym (choose (Oscillates tick) (Ended tick) true due) ∙ sym (ap (end_by p) there)

  pub ended-progress : (next : Option ℕ) → is_machine_due made.machine ≡ false → next ≡ tick_after p tick made.machine →
      of made (Some tick) next ≡ progress_after p
  ended-progress next quiet e =
      ap (λ (q : PlainMachine). of q (Some tick) next) is
      ∙ ap (λ (n : Option ℕ). of (with_machine (plain_of p) (machine_after p tick)) (Some tick) n) (e ∙ ap (tick_after p tick) machine-is)
      ∙ sym (choose (after_oscillation p (machine_after p tick)) (after_end p tick (machine_after p tick)) false quiet)
      ∙ sym (ap (step_by p) there)

  pub ended-end : is_machine_due made.machine ≡ false → Ended tick ≡ step_end p
  ended-end quiet = sym (choose (Oscillates tick) (Ended tick) false quiet) ∙ sym (ap (end_by p) there)

  -- the next tick, by the lines that are done and the least due time
  pub next-is : (at : ℕ) (parts : Parts) → IsLawful parts p.stimulus → AreUpTo p.stimulus.lines at tick → is_machine_due made.machine ≡ false →
      earlier_up_to p.stimulus.end (time_after p.stimulus.lines at tick p.stimulus.end) (least (due_times made.machine)) ≡ tick_after p tick made.machine
  next-is at parts lawful done quiet =
      let time : made.machine.time ≡ tick =
      ap (λ (m : Machine). m.time) machine-is
      ∙ step_at-time p.netlist p.limit tick (inputs_at p.netlist.parts p.stimulus tick) p.machine in
      sym (next-by_lines (schedule_of p.netlist.parts p.stimulus) p.stimulus.lines at tick (due_times made.machine) no_line refl done
      (times-rise parts p.stimulus lawful) lawful.within (due-later made.machine tick time quiet))

pub run-after : (p q : Progress) (end : StepEnd) → end ≡ step_end p → q ≡ progress_after p → rest_of p ≡ run_with end q
run-after p q end e f =
    rest-step p ∙ ap (λ (x : StepEnd). run_with x (progress_after p)) (sym e) ∙ ap (run_with end) (sym f)

-- the next step is ahead of the lines that are done
pub is-ahead : (p : Progress) (tick at : ℕ) (m : Machine) (parts : Parts) → IsLawful parts p.stimulus → AreUpTo p.stimulus.lines at tick →
    (next : Option ℕ) → tick_after p tick m ≡ next → IsAhead p.stimulus at next
is-ahead p tick at m parts lawful done None e = tt
is-ahead p tick at m parts lawful done (Some t) e =
    let schedule = schedule_of p.netlist.parts p.stimulus in
    let is = next_tick-is schedule tick (due_times m) t e in
    let lines = p.stimulus.lines in
    let size = length-map lines (λ (l : StimulusLine). l.time) in (
      record {
        most = done.most;
        early = λ k d lt. let le = done.early k d lt in let later = is.later in omega arith;
        late = λ k d ge within.
            let time : ℕ = (get_or lines k d).time in
            let listed : Contains schedule.times time = line-listed lines p.stimulus.end k d within in
            is.first time (Contains-append_left schedule.times (due_times m) time listed) (done.late k d ge within) (lawful.within k d within);
      },
      is.ended,
    )
