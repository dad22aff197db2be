-- What is left of a run is its next step, and what is left after it.
use Rattle.std.proofs.Common.{◌≡◌, ℕ, suc, ◌+◌, ◌<◌, ◌≤◌, Bool, true, false, cond, Option, Some, None, refl, ap, sym, ◌∙◌, subst, arith, add-one}
use Rattle.std.specs.Option.{option_map_or}
use Rattle.machine.specs.Machine.{Machine}
use Rattle.machine.specs.Pass.{is_machine_due, due_times}
use Rattle.machine.specs.System.{System, machines}
use Rattle.machine.specs.Run.{Schedule, Run, next_tick, IsNextTick, no_steps, oscillation_at, then_run, run_from}
use Rattle.machine.proofs.Runs.{run_from-bound}
use Rattle.machine.proofs.Ticks.{next_tick-is}
use Rattle.stimulus_run.specs.declared.step_end.StepEnd.TheVariants.{Ended, Oscillates, Over}
use Rattle.stimulus_run.specs.Inputs.{schedule_of}
use Rattle.stimulus_run.specs.Progress.{Progress, machine_after, tick_after, after_end, after_oscillation, step_by, progress_after, end_by, step_end, rest_of, run_with}

module _ (p : Progress) where
  abbrev system : System Machine
  system = machines p.netlist

  abbrev schedule : Schedule
  schedule = schedule_of p.netlist.parts p.stimulus

  -- what is left after a tick, by a bound on the steps
  abbrev from : ℕ → Machine → Option ℕ → Run Machine
  from bound m next = option_map_or (λ t. run_from bound system p.limit schedule t m) next no_steps

  bounds-agree : (tick : ℕ) (m : Machine) (next : Option ℕ) → tick_after p tick m ≡ next →
      from p.stimulus.end m next ≡ from (p.stimulus.end + 1) m next
  bounds-agree tick m None e = refl
  bounds-agree tick m (Some t) e =
      let is = next_tick-is schedule tick (due_times m) t e in
      sym (run_from-bound system p.limit schedule p.stimulus.end (p.stimulus.end + 1) t m is.ended (let lt = is.later in omega arith) (omega arith))

  by_test : (tick : ℕ) (b : Bool) →
      cond b (oscillation_at tick) (then_run tick (machine_after p tick) (from p.stimulus.end (machine_after p tick) (tick_after p tick (machine_after p tick))))
      ≡ run_with (cond b (Oscillates tick) (Ended tick))
      (cond b (after_oscillation p (machine_after p tick)) (after_end p tick (machine_after p tick)))
  by_test tick true = refl
  by_test tick false =
      ap (then_run tick (machine_after p tick))
      (bounds-agree tick (machine_after p tick) (tick_after p tick (machine_after p tick)) refl)

  step-first : (tick : ℕ) →
      run_from (p.stimulus.end + 1) system p.limit schedule tick p.machine ≡ run_with (end_by p (Some tick)) (step_by p (Some tick))
  unfolding run_from
  step-first tick =
      ap (λ (n : ℕ). run_from n system p.limit schedule tick p.machine) (add-one p.stimulus.end)
      ∙ by_test tick (is_machine_due (machine_after p tick))

  by_next : (next : Option ℕ) → from (p.stimulus.end + 1) p.machine next ≡ run_with (end_by p next) (step_by p next)
  by_next None = refl
  by_next (Some tick) = step-first tick

  pub rest-step : rest_of p ≡ run_with (step_end p) (progress_after p)
  rest-step = by_next p.next
