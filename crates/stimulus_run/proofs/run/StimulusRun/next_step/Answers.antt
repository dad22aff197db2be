use Rattle.std.proofs.Common.{◌≡◌, ℕ, List, length, ap, sym, ◌∙◌, subst, arith, Option, Some, None}
use Rattle.std.specs.Vec.{with_items}
use Rattle.std.proofs.lemmas.List.{with_items_is}
use Rattle.flat_net.specs.Soundness.{AreDistinctNets}
use Rattle.plain_sim.specs.Plain.{PlainMachine}
use Rattle.vector_text.specs.declared.stimulus.StimulusLine.{StimulusLine}
use Rattle.stimulus_run.specs.declared.step_end.StepEnd.TheVariants.{Ended, Oscillates}
use Rattle.stimulus_run.specs.Lines.{AreForcedByLines}
use Rattle.stimulus_run.specs.Inside.{progress_of}
use Rattle.stimulus_run.specs.Progress.{Progress, tick_after, progress_after, step_end, rest_of}
use Rattle.stimulus_run.specs.Ticks.{time_after, earlier_up_to}
use Rattle.stimulus_run.proofs.Lawful.{lawful-nets, times-rise}
use Rattle.stimulus_run.proofs.NextSteps.{step-from, oscillated-progress, oscillated-end, ended-progress, ended-end, next-is, run-after, is-ahead}
use Rattle.stimulus_run.proofs.run.StimulusRun.next_step.Goals as goal

pub take_lines-self-inside-requires-clause-nets : goal.take_lines-self-inside-requires-clause-nets
take_lines-self-inside-requires-clause-nets g c =
    let r = c.self.inside in
    subst (λ n. AreDistinctNets n r.stimulus.now.inputs) (sym (ap length c.as_mut_slice.ensures.value ∙ c.self.invariant.nets))
    (lawful-nets r.flat.now.parts c.net_count-nets.ensures.sound.sound r.stimulus.now c.self.invariant.lawful)

pub take_lines-self-inside-requires-clause-order : goal.take_lines-self-inside-requires-clause-order
take_lines-self-inside-requires-clause-order g c =
    times-rise c.self.inside.flat.now.parts c.self.inside.stimulus.now c.self.invariant.lawful

pub returns-then-step-clause-progress : goal.returns-then-step-clause-progress
returns-then-step-clause-progress g c =
    let r = c.self.inside in
    let p = progress_of r in
    let tick = c.in-Some.tick in
    let done = c.take_lines-self-inside.ensures.lines in
    let forced = c.take_lines-self-inside.new.forced in
    let gathered = c.gather_inputs.new.inputs in
    let made = c.step.new.run in
    let kept = with_items_is r.forced forced (let a = c.take_lines-self-inside.auto.forced in let b = c.as_mut_slice.ensures.len in omega arith) in
    let held = with_items_is r.inputs gathered (let a = c.gather_inputs.auto.inputs in let b = c.as_mut_slice-2.ensures.len in omega arith) in
    let size = c.take_lines-self-inside.auto.forced ∙ ap length c.as_mut_slice.ensures.value ∙ c.self.invariant.nets in
    let is = step-from r.flat.now c.net_count-nets.ensures.sound.sound p c.self.invariant.netlist tick c.take_lines-self-inside.result done
    forced c.take_lines-self-inside.ensures.forced size c.as_slice-nets.result.now (c.as_slice-nets.ensures ∙ c.inputs.ensures)
    c.as_slice.result.now (c.as_slice.ensures.value ∙ kept) gathered c.gather_inputs.ensures c.as_slice-2.result.now
    (c.as_slice-2.ensures.value ∙ held) c.begin_time.new.self made c.begin_time.ensures c.step.ensures.machine in
    let due = sym c.step.ensures.due ∙ c.if-step.true in
    oscillated-progress p tick made c.in-Some.is is due ∙ ap progress_after c.self.view_is

pub returns-then-step-clause-end : goal.returns-then-step-clause-end
returns-then-step-clause-end g c =
    let r = c.self.inside in
    let p = progress_of r in
    let tick = c.in-Some.tick in
    let done = c.take_lines-self-inside.ensures.lines in
    let forced = c.take_lines-self-inside.new.forced in
    let gathered = c.gather_inputs.new.inputs in
    let made = c.step.new.run in
    let kept = with_items_is r.forced forced (let a = c.take_lines-self-inside.auto.forced in let b = c.as_mut_slice.ensures.len in omega arith) in
    let held = with_items_is r.inputs gathered (let a = c.gather_inputs.auto.inputs in let b = c.as_mut_slice-2.ensures.len in omega arith) in
    let size = c.take_lines-self-inside.auto.forced ∙ ap length c.as_mut_slice.ensures.value ∙ c.self.invariant.nets in
    let is = step-from r.flat.now c.net_count-nets.ensures.sound.sound p c.self.invariant.netlist tick c.take_lines-self-inside.result done
    forced c.take_lines-self-inside.ensures.forced size c.as_slice-nets.result.now (c.as_slice-nets.ensures ∙ c.inputs.ensures)
    c.as_slice.result.now (c.as_slice.ensures.value ∙ kept) gathered c.gather_inputs.ensures c.as_slice-2.result.now
    (c.as_slice-2.ensures.value ∙ held) c.begin_time.new.self made c.begin_time.ensures c.step.ensures.machine in
    let due = sym c.step.ensures.due ∙ c.if-step.true in
    oscillated-end p tick made c.in-Some.is is due ∙ ap step_end c.self.view_is

pub returns-then-step-clause-run : goal.returns-then-step-clause-run
returns-then-step-clause-run g c =
    let r = c.self.inside in
    let p = progress_of r in
    let tick = c.in-Some.tick in
    let done = c.take_lines-self-inside.ensures.lines in
    let forced = c.take_lines-self-inside.new.forced in
    let gathered = c.gather_inputs.new.inputs in
    let made = c.step.new.run in
    let kept = with_items_is r.forced forced (let a = c.take_lines-self-inside.auto.forced in let b = c.as_mut_slice.ensures.len in omega arith) in
    let held = with_items_is r.inputs gathered (let a = c.gather_inputs.auto.inputs in let b = c.as_mut_slice-2.ensures.len in omega arith) in
    let size = c.take_lines-self-inside.auto.forced ∙ ap length c.as_mut_slice.ensures.value ∙ c.self.invariant.nets in
    let is = step-from r.flat.now c.net_count-nets.ensures.sound.sound p c.self.invariant.netlist tick c.take_lines-self-inside.result done
    forced c.take_lines-self-inside.ensures.forced size c.as_slice-nets.result.now (c.as_slice-nets.ensures ∙ c.inputs.ensures)
    c.as_slice.result.now (c.as_slice.ensures.value ∙ kept) gathered c.gather_inputs.ensures c.as_slice-2.result.now
    (c.as_slice-2.ensures.value ∙ held) c.begin_time.new.self made c.begin_time.ensures c.step.ensures.machine in
    let due = sym c.step.ensures.due ∙ c.if-step.true in
    ap rest_of (sym c.self.view_is)
    ∙ run-after p _ (Oscillates tick) (oscillated-end p tick made c.in-Some.is is due) (oscillated-progress p tick made c.in-Some.is is due)

pub invariant_of-self-2 : goal.invariant_of-self-2
invariant_of-self-2 g c =
    let r = c.self.inside in
    let p = progress_of r in
    let tick = c.in-Some.tick in
    let done = c.take_lines-self-inside.ensures.lines in
    let forced = c.take_lines-self-inside.new.forced in
    let gathered = c.gather_inputs.new.inputs in
    let made = c.step.new.run in
    let kept = with_items_is r.forced forced (let a = c.take_lines-self-inside.auto.forced in let b = c.as_mut_slice.ensures.len in omega arith) in
    let held = with_items_is r.inputs gathered (let a = c.gather_inputs.auto.inputs in let b = c.as_mut_slice-2.ensures.len in omega arith) in
    let size = c.take_lines-self-inside.auto.forced ∙ ap length c.as_mut_slice.ensures.value ∙ c.self.invariant.nets in
    let is = step-from r.flat.now c.net_count-nets.ensures.sound.sound p c.self.invariant.netlist tick c.take_lines-self-inside.result done
    forced c.take_lines-self-inside.ensures.forced size c.as_slice-nets.result.now (c.as_slice-nets.ensures ∙ c.inputs.ensures)
    c.as_slice.result.now (c.as_slice.ensures.value ∙ kept) gathered c.gather_inputs.ensures c.as_slice-2.result.now
    (c.as_slice-2.ensures.value ∙ held) c.begin_time.new.self made c.begin_time.ensures c.step.ensures.machine in
    let quiet = sym c.step.ensures.due ∙ c.if-step.false in
    let at = c.take_lines-self-inside.result in
    let s = r.stimulus.now in
    let next = c.next_tick-self-inside.result in
    let e : next ≡ tick_after p tick made.machine =
    c.next_tick-self-inside.ensures
    ∙ ap (λ (l : List StimulusLine). earlier_up_to s.end (time_after l at tick s.end) c.next_time-due.result) c.as_slice-lines.ensures
    ∙ ap (earlier_up_to s.end (time_after s.lines at tick s.end)) c.next_time-due.ensures
    ∙ next-is p tick made c.in-Some.is is at r.flat.now.parts c.self.invariant.lawful done quiet in
    let limit = ap (λ (q : PlainMachine). q.limit) is in
    let some = c.self.invariant.some in
    let few = c.self.invariant.few in
    record {
      netlist = ap (λ (q : PlainMachine). q.netlist) is ∙ c.self.invariant.netlist;
      lawful = c.self.invariant.lawful;
      some = omega arith;
      few = omega arith;
      inputs = ap length held ∙ c.gather_inputs.auto.inputs ∙ ap length c.as_mut_slice-2.ensures.value ∙ c.self.invariant.inputs;
      nets = ap length kept ∙ size;
      forced = subst (AreForcedByLines s at) (sym kept) c.take_lines-self-inside.ensures.forced;
      ahead = is-ahead p tick at made.machine r.flat.now.parts c.self.invariant.lawful done next (sym e);
      behind = done;
    }

pub returns-clause-progress : goal.returns-clause-progress
returns-clause-progress g c =
    let r = c.self.inside in
    let p = progress_of r in
    let tick = c.in-Some.tick in
    let done = c.take_lines-self-inside.ensures.lines in
    let forced = c.take_lines-self-inside.new.forced in
    let gathered = c.gather_inputs.new.inputs in
    let made = c.step.new.run in
    let kept = with_items_is r.forced forced (let a = c.take_lines-self-inside.auto.forced in let b = c.as_mut_slice.ensures.len in omega arith) in
    let held = with_items_is r.inputs gathered (let a = c.gather_inputs.auto.inputs in let b = c.as_mut_slice-2.ensures.len in omega arith) in
    let size = c.take_lines-self-inside.auto.forced ∙ ap length c.as_mut_slice.ensures.value ∙ c.self.invariant.nets in
    let is = step-from r.flat.now c.net_count-nets.ensures.sound.sound p c.self.invariant.netlist tick c.take_lines-self-inside.result done
    forced c.take_lines-self-inside.ensures.forced size c.as_slice-nets.result.now (c.as_slice-nets.ensures ∙ c.inputs.ensures)
    c.as_slice.result.now (c.as_slice.ensures.value ∙ kept) gathered c.gather_inputs.ensures c.as_slice-2.result.now
    (c.as_slice-2.ensures.value ∙ held) c.begin_time.new.self made c.begin_time.ensures c.step.ensures.machine in
    let quiet = sym c.step.ensures.due ∙ c.if-step.false in
    let at = c.take_lines-self-inside.result in
    let s = r.stimulus.now in
    let next = c.next_tick-self-inside.result in
    let e : next ≡ tick_after p tick made.machine =
    c.next_tick-self-inside.ensures
    ∙ ap (λ (l : List StimulusLine). earlier_up_to s.end (time_after l at tick s.end) c.next_time-due.result) c.as_slice-lines.ensures
    ∙ ap (earlier_up_to s.end (time_after s.lines at tick s.end)) c.next_time-due.ensures
    ∙ next-is p tick made c.in-Some.is is at r.flat.now.parts c.self.invariant.lawful done quiet in
    ended-progress p tick made c.in-Some.is is next quiet e ∙ ap progress_after c.self.view_is

pub returns-clause-end : goal.returns-clause-end
returns-clause-end g c =
    let r = c.self.inside in
    let p = progress_of r in
    let tick = c.in-Some.tick in
    let done = c.take_lines-self-inside.ensures.lines in
    let forced = c.take_lines-self-inside.new.forced in
    let gathered = c.gather_inputs.new.inputs in
    let made = c.step.new.run in
    let kept = with_items_is r.forced forced (let a = c.take_lines-self-inside.auto.forced in let b = c.as_mut_slice.ensures.len in omega arith) in
    let held = with_items_is r.inputs gathered (let a = c.gather_inputs.auto.inputs in let b = c.as_mut_slice-2.ensures.len in omega arith) in
    let size = c.take_lines-self-inside.auto.forced ∙ ap length c.as_mut_slice.ensures.value ∙ c.self.invariant.nets in
    let is = step-from r.flat.now c.net_count-nets.ensures.sound.sound p c.self.invariant.netlist tick c.take_lines-self-inside.result done
    forced c.take_lines-self-inside.ensures.forced size c.as_slice-nets.result.now (c.as_slice-nets.ensures ∙ c.inputs.ensures)
    c.as_slice.result.now (c.as_slice.ensures.value ∙ kept) gathered c.gather_inputs.ensures c.as_slice-2.result.now
    (c.as_slice-2.ensures.value ∙ held) c.begin_time.new.self made c.begin_time.ensures c.step.ensures.machine in
    let quiet = sym c.step.ensures.due ∙ c.if-step.false in
    ended-end p tick made c.in-Some.is is quiet ∙ ap step_end c.self.view_is

pub returns-clause-run : goal.returns-clause-run
returns-clause-run g c =
    let r = c.self.inside in
    let p = progress_of r in
    let tick = c.in-Some.tick in
    let done = c.take_lines-self-inside.ensures.lines in
    let forced = c.take_lines-self-inside.new.forced in
    let gathered = c.gather_inputs.new.inputs in
    let made = c.step.new.run in
    let kept = with_items_is r.forced forced (let a = c.take_lines-self-inside.auto.forced in let b = c.as_mut_slice.ensures.len in omega arith) in
    let held = with_items_is r.inputs gathered (let a = c.gather_inputs.auto.inputs in let b = c.as_mut_slice-2.ensures.len in omega arith) in
    let size = c.take_lines-self-inside.auto.forced ∙ ap length c.as_mut_slice.ensures.value ∙ c.self.invariant.nets in
    let is = step-from r.flat.now c.net_count-nets.ensures.sound.sound p c.self.invariant.netlist tick c.take_lines-self-inside.result done
    forced c.take_lines-self-inside.ensures.forced size c.as_slice-nets.result.now (c.as_slice-nets.ensures ∙ c.inputs.ensures)
    c.as_slice.result.now (c.as_slice.ensures.value ∙ kept) gathered c.gather_inputs.ensures c.as_slice-2.result.now
    (c.as_slice-2.ensures.value ∙ held) c.begin_time.new.self made c.begin_time.ensures c.step.ensures.machine in
    let quiet = sym c.step.ensures.due ∙ c.if-step.false in
    let at = c.take_lines-self-inside.result in
    let s = r.stimulus.now in
    let next = c.next_tick-self-inside.result in
    let e : next ≡ tick_after p tick made.machine =
    c.next_tick-self-inside.ensures
    ∙ ap (λ (l : List StimulusLine). earlier_up_to s.end (time_after l at tick s.end) c.next_time-due.result) c.as_slice-lines.ensures
    ∙ ap (earlier_up_to s.end (time_after s.lines at tick s.end)) c.next_time-due.ensures
    ∙ next-is p tick made c.in-Some.is is at r.flat.now.parts c.self.invariant.lawful done quiet in
    ap rest_of (sym c.self.view_is)
    ∙ run-after p _ (Ended tick) (ended-end p tick made c.in-Some.is is quiet) (ended-progress p tick made c.in-Some.is is next quiet e)
