-- How far the run of a stimulus has come, and what is left of it.
use Rattle.std.specs.Prelude.{ℕ, ◌+◌, Bool, true, false, if◌then◌else◌, List, Option, Some, None}
use Rattle.std.specs.Option.{option_map_or, option_and_then}
use Rattle.level_range.specs.Signal.{Signal}
use Rattle.flat_net.specs.Patches.{Netlist}
use Rattle.machine.specs.Machine.{Machine, start, net_state}
use Rattle.machine.specs.Pass.{is_machine_due, due_times}
use Rattle.machine.specs.System.{machines, step_at}
use Rattle.machine.specs.Run.{Schedule, Run, next_tick, no_steps, oscillation_at, then_run, run_from}
use Rattle.vector_text.specs.declared.stimulus.StimulusWhat.{StimulusWhat}
use Rattle.vector_text.specs.declared.stimulus.Stimulus.{Stimulus}
use Rattle.stimulus_run.specs.declared.step_end.StepEnd.{StepEnd}
use Rattle.stimulus_run.specs.declared.step_end.StepEnd.TheVariants.{Ended, Oscillates, Over}
use Rattle.stimulus_run.specs.Inputs.{schedule_of, inputs_at, strobe_at}

-- the netlist, the limit of passes and the stimulus; the machine, the tick of the step that ended last, and the tick of
-- the next step
pub record Progress : Type 0 where
  pub netlist : Netlist
  pub limit : ℕ
  pub stimulus : Stimulus
  pub machine : Machine
  pub ended : Option ℕ
  pub next : Option ℕ

-- no step was made, and the first is at 0
abbrev pub progress_start : Netlist → ℕ → Stimulus → Progress
progress_start netlist limit stimulus = record {
  netlist = netlist;
  limit = limit;
  stimulus = stimulus;
  machine = start netlist;
  ended = None;
  next = Some 0;
}

-- the machine after a step at a tick
abbrev pub machine_after : Progress → ℕ → Machine
machine_after p tick = step_at (machines p.netlist) p.limit tick (inputs_at p.netlist.parts p.stimulus tick) p.machine

-- the tick after one, by the times of the stimulus and the due times of a machine
abbrev pub tick_after : Progress → ℕ → Machine → Option ℕ
tick_after p tick m = next_tick (schedule_of p.netlist.parts p.stimulus) tick (due_times m)

-- after a step that ended, and after one that oscillated, with which the run is over
abbrev pub after_end : Progress → ℕ → Machine → Progress
after_end p tick m = record p { machine = m; ended = Some tick; next = tick_after p tick m }

abbrev pub after_oscillation : Progress → Machine → Progress
after_oscillation p m = record p { machine = m; ended = None; next = None }

-- after the next step, if there is one
abbrev pub step_by : Progress → Option ℕ → Progress
step_by p None = p
step_by p (Some tick) =
    let m = machine_after p tick in if is_machine_due m then after_oscillation p m else after_end p tick m

abbrev pub progress_after : Progress → Progress
progress_after p = step_by p p.next

-- how the next step ends
abbrev pub end_by : Progress → Option ℕ → StepEnd
end_by p None = Over
end_by p (Some tick) = if is_machine_due (machine_after p tick) then Oscillates tick else Ended tick

abbrev pub step_end : Progress → StepEnd
step_end p = end_by p p.next

-- what is left of the run: the steps from the next one on. Since ticks rise, there are no more than ticks
abbrev pub rest_of : Progress → Run Machine
rest_of p =
    option_map_or
    (λ tick. run_from (p.stimulus.end + 1) (machines p.netlist) p.limit (schedule_of p.netlist.parts p.stimulus) tick p.machine)
    p.next no_steps

-- the run that begins with a step that ends so, and goes on as what is left then
abbrev pub run_with : StepEnd → Progress → Run Machine
run_with (Ended tick) p = then_run tick p.machine (rest_of p)
run_with (Oscillates tick) p = oscillation_at tick
run_with Over p = no_steps

-- what is read of the outputs after the step that ended last
abbrev pub strobe_of : Progress → Option StimulusWhat
strobe_of p = option_and_then (strobe_at p.stimulus.lines) p.ended

-- the signal that is seen of a net
abbrev pub seen_signal : Progress → ℕ → Signal
seen_signal p net = (net_state p.netlist.parts p.machine.cells net).seen
