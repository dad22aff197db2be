-- Passes, steps and runs of the machines of a netlist.
use Rattle.std.proofs.Common.{◌≡◌, ℕ, zero, suc, ◌+◌, ◌≤◌, Bool, true, false, List, [], refl, ap, sym, ◌∙◌, subst, arith}
use Rattle.std.specs.Prelude.{All}
use Rattle.std.proofs.lemmas.List.Elements.{All-nil, All-cons}
use Rattle.level_range.specs.Signal.{Signal}
use Rattle.flat_net.specs.Patches.{Netlist}
use Rattle.flat_net.specs.Soundness.{IsSound}
use Rattle.cell_step.specs.declared.states.CellState.{CellState}
use Rattle.cell_step.specs.Fitting.{HasAcceptedPrimitives}
use Rattle.machine.specs.Machine.{Machine, start, begin}
use Rattle.machine.specs.Pass.{is_machine_due, one_more, mature, settle, evaluate, first_phase, pass}
use Rattle.machine.specs.Sound.{AreInputs, IsMachine}
use Rattle.machine.specs.System.{repeat_pass, step, step_at, machines}
use Rattle.machine.specs.Run.{Schedule, Ended, run_from, run, netlist_run}
use Rattle.machine.proofs.Stillness.{pass-still}
use Rattle.machine.proofs.Machines.{start-is_machine, begin-is_machine, pass-is_machine}
use Rattle.machine.proofs.Steps.{step-is}
use Rattle.machine.proofs.Runs.{by_steps}

-- a machine with these states, that made a pass more with the inputs in force
abbrev after_pass : Machine → List CellState → Machine
after_pass m cells = record m { passes = one_more m.passes; has_passed = true; last_inputs = m.inputs; cells = cells }

pass-of : (netlist : Netlist) (m : Machine) → pass netlist m ≡ after_pass m (pass netlist m).cells
unfolding pass evaluate first_phase settle mature
pass-of netlist m = refl

-- a pass in which nothing is due and no input is new counts, and does nothing else
pub pass-idle : (netlist : Netlist) (m : Machine) → IsMachine netlist m → m.has_passed ≡ true → is_machine_due m ≡ false → m.inputs ≡ m.last_inputs →
    pass netlist m ≡ record m { passes = one_more m.passes }
pass-idle netlist m machine passed quiet inputs =
    pass-of netlist m
    ∙ ap (after_pass m) (pass-still netlist m machine passed quiet inputs)
    ∙ ap (λ (b : Bool). let n : Machine = record m { passes = one_more m.passes; has_passed = b; last_inputs = m.inputs } in n) (sym passed)
    ∙ ap (λ (signals : List Signal). let n : Machine = record m { passes = one_more m.passes; last_inputs = signals } in n) inputs

module _ (netlist : Netlist) (sound : IsSound netlist.parts) (accepted : HasAcceptedPrimitives netlist.parts) where
  pub repeat_pass-is_machine : (count : ℕ) (m : Machine) → IsMachine netlist m → IsMachine netlist (repeat_pass (machines netlist) count m)
  unfolding repeat_pass
  repeat_pass-is_machine zero m is = is
  repeat_pass-is_machine (suc count) m is = repeat_pass-is_machine count (pass netlist m) (pass-is_machine netlist sound accepted m is)

  -- a step leaves a machine of the netlist
  pub step-is_machine : (limit : ℕ) (m : Machine) → IsMachine netlist m → IsMachine netlist (step (machines netlist) limit m)
  step-is_machine limit m is =
      let made = step-is (machines netlist) limit m in
      subst (IsMachine netlist) (sym made.made)
      (repeat_pass-is_machine made.count (pass netlist m) (pass-is_machine netlist sound accepted m is))

  module _ (limit : ℕ) (schedule : Schedule) (inputs : (tick : ℕ) → tick ≤ schedule.end → AreInputs netlist.parts (schedule.inputs_at tick)) where
    made-is_machine : (tick : ℕ) (m : Machine) → tick ≤ schedule.end → IsMachine netlist m →
        IsMachine netlist (step_at (machines netlist) limit tick (schedule.inputs_at tick) m)
    made-is_machine tick m le is =
        step-is_machine limit (begin tick (schedule.inputs_at tick) m)
        (begin-is_machine netlist m tick (schedule.inputs_at tick) is (inputs tick le))

    abbrev is_machine : Ended Machine → Type 0
    is_machine ended = IsMachine netlist ended.machine

    abbrev made : ℕ → Machine → Ended Machine
    made tick m = record { tick = tick; machine = step_at (machines netlist) limit tick (schedule.inputs_at tick) m }

    -- and so does each step of a run
    pub run_from-are_machines : (bound tick : ℕ) (m : Machine) → tick ≤ schedule.end → IsMachine netlist m →
        All is_machine (run_from bound (machines netlist) limit schedule tick m).ended
    run_from-are_machines =
        by_steps (machines netlist) limit schedule (λ tick m r. IsMachine netlist m → All is_machine r.ended)
        (λ tick m is. All-nil is_machine)
        (λ tick m le due is. All-nil is_machine)
        (λ tick m le quiet last is. All-cons is_machine (made tick m) [] (made-is_machine tick m le is) (All-nil is_machine))
        (λ tick next m rest le quiet next_is rests is.
        All-cons is_machine (made tick m) rest.ended (made-is_machine tick m le is) (rests (made-is_machine tick m le is)))

    pub run-are_machines : All is_machine (netlist_run netlist limit schedule).ended
    unfolding run
    run-are_machines = run_from-are_machines (schedule.end + 1) 0 (start netlist) (omega arith) (start-is_machine netlist sound accepted)
