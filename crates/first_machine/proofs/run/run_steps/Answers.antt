use Rattle.std.proofs.Common.{◌≡◌, ◌<◌, ℕ, List, map, take, [], false, Some, None, arith, sym, ap, ◌∙◌, subst}
use Rattle.gate_net.specs.declared.stimulus.ValueLine.{ValueLine}
use Rattle.level_range.specs.declared.range.Logic.{Logic}
use Rattle.first_machine.specs.Machine.{Machine}
use Rattle.first_machine.specs.Pass.{is_due}
use Rattle.first_machine.specs.Run.{begun, in_force, last_values, due_times, next_tick}
use Rattle.first_machine.specs.Shown.{AreShown, with_forced}
use Rattle.first_machine.specs.StateValues.{values_of}
use Rattle.first_machine.specs.Places.{AreUpTo, placed_value, IsQuiet, tick_after}
use Rattle.first_machine.specs.PrintedPlaces.{IsStep}
use Rattle.first_machine.proofs.StepLemmas.{step_time}
use Rattle.first_machine.proofs.RunLemmas.{quiet_from, no_due_times, next_tick_end, next_tick_before}
use Rattle.first_machine.proofs.RunState.{after, begun_with, earlier_next, later_next, step_is, text_oscillated, tick_oscillated, text_over, tick_over, goes_on}
use Rattle.first_machine.proofs.run.run_steps.Goals as goal
use Rattle.first_machine.proofs.run.run_steps.Goals.{In_ok-due}

up_to : (c : In_ok-due) → AreUpTo c.args.stimulus.now.lines c.steps.tick c.lines_up_to-at.result
up_to c = subst (λ (lines : List ValueLine). AreUpTo lines c.steps.tick c.lines_up_to-at.result) c.as_slice-lines.ensures c.lines_up_to-at.ensures

values_are : (c : In_ok-due) → c.values_before.result.now ≡ last_values [] (take c.lines_up_to-at.result c.args.stimulus.now.lines)
values_are c = c.values_before.ensures ∙ ap (λ (lines : List ValueLine). last_values [] (take c.lines_up_to-at.result lines)) c.as_slice-lines.ensures

begins : (c : In_ok-due) → AreShown c.args.netlist.now (with_forced (values_of c.steps.state) (map (placed_value c.values_before.result.now) c.args.places.now)) (begun c.steps.tick (in_force c.args.netlist.now c.args.stimulus.now c.steps.tick) c.steps.invariant.state.machine)
begins c =
    begun_with c.args.limit c.args.netlist.now c.args.stimulus.now c.steps.state.outs.items c.steps.state.targets.items c.steps.state.seen.items c.steps.printed c.steps.text.items c.steps.tick c.steps.invariant.state
    c.args.places.now c.lines_up_to-at.result c.values_before.result.now c.requires.places (up_to c) (values_are c) c.requires.places_size

-- the machine after the step
abbrev stepped : In_ok-due → Machine
stepped c = after c.args.limit c.args.netlist.now c.args.stimulus.now c.steps.state.outs.items c.steps.state.targets.items c.steps.state.seen.items c.steps.printed c.steps.text.items c.steps.tick c.steps.invariant.state c.steps.invariant.within

shows : (c : In_ok-due) → AreShown c.args.netlist.now (values_of c.step_with.new.self) (stepped c)
shows c = c.in_ok-due.ensures.shown _ (begins c)

due_is : (c : In_ok-due) → is_due (stepped c) ≡ c.in_ok-due.due
due_is c = c.in_ok-due.ensures.due _ (begins c)

quiet : (c : In_ok-due) → c.in_ok-due.due ≡ false → IsQuiet c.args.netlist.now (values_of c.step_with.new.self)
quiet c none = quiet_from c.args.netlist.now (values_of c.step_with.new.self) (stepped c) (shows c) (due_is c ∙ none)

step_ended : (c : In_ok-due) → IsStep c.args.netlist.now c.steps.tick c.step_with.new.self.seen.items c.steps.printed (stepped c) c.steps.invariant.state.last
step_ended c =
    step_is c.args.limit c.args.netlist.now c.args.stimulus.now c.steps.state.outs.items c.steps.state.targets.items c.steps.state.seen.items c.steps.printed c.steps.text.items c.steps.tick c.steps.invariant.state c.steps.invariant.within
    (values_of c.step_with.new.self) (shows c) (step_time c.args.limit c.args.netlist.now (begun c.steps.tick (in_force c.args.netlist.now c.args.stimulus.now c.steps.tick) c.steps.invariant.state.machine))

pub returns-then-due-clause-trace : goal.returns-then-due-clause-trace
returns-then-due-clause-trace c =
    let d = (goal.at.returns-then-due-clause-trace c).In_ok-due in
    text_oscillated c.args.limit c.args.netlist.now c.args.stimulus.now c.steps.state.outs.items c.steps.state.targets.items c.steps.state.seen.items c.steps.printed c.steps.text.items c.steps.tick c.steps.invariant.state c.steps.invariant.within (due_is d ∙ c.if-due.true)

pub returns-then-due-clause-oscillated : goal.returns-then-due-clause-oscillated
returns-then-due-clause-oscillated c =
    let d = (goal.at.returns-then-due-clause-oscillated c).In_ok-due in
    tick_oscillated c.args.limit c.args.netlist.now c.args.stimulus.now c.steps.state.outs.items c.steps.state.targets.items c.steps.state.seen.items c.steps.printed c.steps.text.items c.steps.tick c.steps.invariant.state c.steps.invariant.within (due_is d ∙ c.if-due.true)

step_seen : (c : In_ok-due) (seen : List Logic) → seen ≡ c.step_with.new.self.seen.items → IsStep c.args.netlist.now c.steps.tick seen c.steps.printed (stepped c) c.steps.invariant.state.last
step_seen c seen e = subst (λ (xs : List Logic). IsStep c.args.netlist.now c.steps.tick xs c.steps.printed (stepped c) c.steps.invariant.state.last) (sym e) (step_ended c)

nothing_due : (c : In_ok-due) → c.in_ok-due.due ≡ false → due_times (stepped c) ≡ []
nothing_due c none = no_due_times c.args.netlist.now (values_of c.step_with.new.self) (stepped c) (shows c) (quiet c none)

ended_here : (c : In_ok-due) → c.in_ok-due.due ≡ false → c.steps.tick ≡ c.args.stimulus.now.end → next_tick c.args.stimulus.now c.steps.tick (stepped c) ≡ None
ended_here c none e =
    ap (λ (t : ℕ). next_tick c.args.stimulus.now t (stepped c)) e ∙ next_tick_end c.args.netlist.now c.args.stimulus.now c.requires.lawful (stepped c) (nothing_due c none)

goes_to : (c : In_ok-due) → c.in_ok-due.due ≡ false → c.steps.tick < c.args.stimulus.now.end → next_tick c.args.stimulus.now c.steps.tick (stepped c) ≡ Some (tick_after c.args.stimulus.now.lines c.lines_up_to-at.result c.args.stimulus.now.end)
goes_to c none h =
    next_tick_before c.args.netlist.now c.args.stimulus.now c.requires.lawful (stepped c) (nothing_due c none) c.steps.tick c.lines_up_to-at.result h (up_to c)

pub returns-then-tick-stimulus-clause-trace : goal.returns-then-tick-stimulus-clause-trace
returns-then-tick-stimulus-clause-trace c =
    let d = (goal.at.returns-then-tick-stimulus-clause-trace c).In_ok-due in
    text_over c.args.limit c.args.netlist.now c.args.stimulus.now c.steps.state.outs.items c.steps.state.targets.items c.steps.state.seen.items c.steps.printed c.steps.text.items c.steps.tick c.steps.invariant.state c.steps.invariant.within
    c.push_step.new.text.items (due_is d ∙ c.if-due.false) (ended_here d c.if-due.false c.if-tick-stimulus.true) (c.in_ok-push_step.ensures.text (stepped d) c.steps.invariant.state.last (step_seen d c.as_slice.result.now c.as_slice.ensures.value))

pub returns-then-tick-stimulus-clause-oscillated : goal.returns-then-tick-stimulus-clause-oscillated
returns-then-tick-stimulus-clause-oscillated c =
    let d = (goal.at.returns-then-tick-stimulus-clause-oscillated c).In_ok-due in
    tick_over c.args.limit c.args.netlist.now c.args.stimulus.now c.steps.state.outs.items c.steps.state.targets.items c.steps.state.seen.items c.steps.printed c.steps.text.items c.steps.tick c.steps.invariant.state c.steps.invariant.within
    (due_is d ∙ c.if-due.false) (ended_here d c.if-due.false c.if-tick-stimulus.true)

pub steps-preserved : goal.steps-preserved
steps-preserved c =
    let d = (goal.at.steps-preserved c).In_ok-due in
    let before : c.steps.tick < c.args.stimulus.now.end = omega (arith, c.steps.invariant.within, c.if-tick-stimulus.false) in
    let next_is : c.next_tick-tick.result ≡ tick_after c.args.stimulus.now.lines c.lines_up_to-at.result c.args.stimulus.now.end =
    c.next_tick-tick.ensures ∙ ap (λ (lines : List ValueLine). tick_after lines c.lines_up_to-at.result c.args.stimulus.now.end) c.as_slice-lines.ensures in
    let later = later_next c.args.netlist.now c.args.stimulus.now c.steps.tick c.lines_up_to-at.result c.requires.lawful before (up_to d) in
    rw next_is record {
      state = goes_on c.args.limit c.args.netlist.now c.args.stimulus.now c.steps.state.outs.items c.steps.state.targets.items c.steps.state.seen.items c.steps.printed c.steps.text.items c.steps.tick c.steps.invariant.state c.steps.invariant.within
          c.step_with.new.self.outs.items c.step_with.new.self.targets.items c.step_with.new.self.seen.items c.step_with.new.self.forced.items c.push_step.new.printed c.push_step.new.text.items
          (tick_after c.args.stimulus.now.lines c.lines_up_to-at.result c.args.stimulus.now.end)
          (due_is d ∙ c.if-due.false) (goes_to d c.if-due.false before) later.0 (shows d) (quiet d c.if-due.false) (c.in_ok-push_step.ensures.text (stepped d) c.steps.invariant.state.last (step_seen d c.as_slice.result.now c.as_slice.ensures.value)) (c.in_ok-push_step.ensures.printed (stepped d) c.steps.invariant.state.last (step_seen d c.as_slice.result.now c.as_slice.ensures.value));
      sizes = c.in_ok-due.ensures.sizes;
      printed_size = omega (arith, c.steps.invariant.printed_size);
      lines = earlier_next c.args.netlist.now c.args.stimulus.now c.steps.tick c.lines_up_to-at.result c.requires.lawful before (up_to d);
      within = later.1;
    }
