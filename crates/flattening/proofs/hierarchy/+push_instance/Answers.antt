use Rattle.std.proofs.Common.{rules, ◌≡◌, ◌∙◌, ◌-◌, ℕ, List, ◌++◌, length, sym, ap}
use Rattle.flat_names.specs.Spelling.{Written, part_spelling}
use Rattle.netlist_plan.specs.declared.plan.PlanNet.{PlanNet}
use Rattle.netlist_plan.specs.declared.plan.PlanStep.{PlanStep}
use Rattle.netlist_plan.specs.Additions.{joined}
use Rattle.netlist_plan.specs.Flattening.{no_plan}
use Rattle.flattening.specs.Lists.{so_far}
use Rattle.flattening.specs.Spelled.{additions, nets_additions, place_of, plan_in, step_additions}
use Rattle.flattening.proofs.StepLemmas.{none_left, steps_all, steps_more, with_plan, with_steps, without_plan}
use Rattle.flattening.proofs.hierarchy.«+push_instance».Goals.{in-Element+in_ok-push_element-in-Element, in-Instance+in_ok-inner-in-Instance+in_ok-bound-in-Instance+in_ok-push_instance-in-Instance}
use Rattle.flattening.proofs.hierarchy.«+push_instance».Goals as goal

pub returns-then-levels-eq0 : goal.returns-then-levels-eq0
returns-then-levels-eq0 t c =
    none_left c.args.plans.now c.args.delays.now c.args.levels c.args.master c.args.prefix.items c.args.outside.now (so_far c.args.to.now) c.if-levels-eq0.true

pub loop-step-preserved : goal.loop-step-preserved
loop-step-preserved t c =
    let plans = c.args.plans.now in
    let delays = c.args.delays.now in
    let inner = additions plans delays (c.args.levels - 1) in
    let at = c.in_ok-at.at in
    let steps = c.as_slice-step-items.result.now in
    let i = c.loop-step.step-index in
    let step = c.step-item.result in
    let seen = so_far c.loop-step.to in
    let next = length seen.net_names in
    let whole = with_steps inner plans delays at (so_far c.push_nets.new.to) steps in
    let one : so_far c.match-step.to ≡ joined seen (step_additions inner plans delays at next step) =
    elim c.match-step.branch [
      | in-Element+in_ok-push_element-in-Element w ↦
          ap so_far w.to-is
          ∙ w.in_ok-push_element-in-Element.ensures
          ∙ ap (λ (s : PlanStep). joined seen (step_additions inner plans delays at next s)) (sym w.in-Element.is)
      | in-Instance+in_ok-inner-in-Instance+in_ok-bound-in-Instance+in_ok-push_instance-in-Instance w ↦
          let instance = w.in-Instance.instance in
          ap so_far w.to-is
          ∙ w.in_ok-push_instance-in-Instance.ensures
          ∙ ap (λ (p : List ℕ). joined seen (inner instance.master p w.deref.result.now next)) w.in_ok-inner-in-Instance.ensures
          ∙ ap (λ (o : List (ℕ × ℕ)). joined seen (inner instance.master (at.prefix ++ part_spelling (Written instance.name)) o next)) (w.deref.ensures.value ∙ w.in_ok-bound-in-Instance.ensures)
          ∙ ap (λ (s : PlanStep). joined seen (step_additions inner plans delays at next s)) (sym w.in-Instance.is)
    ] in
    steps_more inner plans delays at steps i step seen (so_far c.match-step.to) whole c.loop-step-test.true c.step-item.is one c.loop-step.invariant

pub returns-after-loop-step : goal.returns-after-loop-step
returns-after-loop-step t c =
    let plans = c.args.plans.now in
    let delays = c.args.delays.now in
    let master = c.args.master in
    let prefix = c.args.prefix.items in
    let outside = c.args.outside.now in
    let inner = additions plans delays (c.args.levels - 1) in
    let at = c.in_ok-at.at in
    let plan = c.in-Some.plan.now in
    let old = so_far c.args.to.now in
    let nets = so_far c.push_nets.new.to in
    let here : plan_in plans master ≡ plan = search rules in
    let count : c.len.result ≡ length old.net_names = search rules in
    let place : at ≡ place_of plan.nets master prefix outside (length old.net_names) =
    c.in_ok-at.ensures
    ∙ ap (λ (ns : List PlanNet). place_of ns master prefix outside c.len.result) c.as_slice-nets.ensures
    ∙ ap (λ (n : ℕ). place_of plan.nets master prefix outside n) count in
    let own : nets ≡ joined old (nets_additions delays at plan) = c.in_ok-push_nets.ensures in
    let all : so_far c.loop-step.to ≡ with_steps inner plans delays at nets plan.steps =
    steps_all inner plans delays at c.as_slice-step-items.result.now c.loop-step.step-index (so_far c.loop-step.to)
    (with_steps inner plans delays at nets c.as_slice-step-items.result.now) c.loop-step-test.false c.loop-step.invariant
    ∙ ap (with_steps inner plans delays at nets) c.as_slice-step-items.ensures in
    with_plan plans delays c.args.levels master prefix outside old c.if-levels-eq0.false plan at nets (so_far c.loop-step.to) here place own all

pub returns-in_default : goal.returns-in_default
returns-in_default t c =
    let none : plan_in c.args.plans.now c.args.master ≡ no_plan = search rules in
    without_plan c.args.plans.now c.args.delays.now c.args.levels c.args.master c.args.prefix.items c.args.outside.now (so_far c.args.to.now) c.if-levels-eq0.false none
