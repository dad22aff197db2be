use Rattle.std.proofs.Common.{◌<◌, ◌≤◌, ℕ, List, [], ◌∷◌, ◌++◌, length, get_or, min, sym, ap, ◌∙◌, arith, inl, inr}
use Rattle.std.specs.List.{enumerate_from, zip}
use Rattle.std.proofs.lemmas.Bool.{cases_lt}
use Rattle.std.proofs.lemmas.List.{get_or_default}
use Rattle.std.proofs.lemmas.Simd.{map-map}
use Rattle.netlist_plan.specs.declared.plan.PlanElement.{PlanElement}
use Rattle.netlist_plan.specs.declared.plan.PlanStep.{PlanStep}
use Rattle.netlist_plan.specs.declared.plan.PlanStep.TheVariants.{Element as ElementStep}
use Rattle.netlist_plan.specs.Elements.{copied_bit, copies}
use Rattle.netlist_plan.specs.Plan.{element_steps}
use Rattle.module_plan.proofs.Walks.{paired_left, paired_more, paired_right}
use Rattle.module_plan.proofs.assignments.push_copies.Goals as goal

pub loop-place-init : goal.loop-place-init
loop-place-init c =
    let targets = c.args.targets.now in
    ap (λ (made : List PlanStep). c.args.steps.now ++ made)
    (sym (map-map ElementStep (copied_bit c.args.number (length targets) c.args.strengths c.args.item) (enumerate_from 0 (zip targets c.args.values.now))))

pub loop-place-preserved : goal.loop-place-preserved
loop-place-preserved c =
    let targets = c.args.targets.now in
    let values = c.args.values.now in
    let i = c.loop-place.place in
    let target = get_or targets i 0 in
    let value = get_or values i 0 in
    let step = λ (p : ℕ × (ℕ × ℕ)). ElementStep (copied_bit c.args.number (length targets) c.args.strengths c.args.item p) in
    let left : i < length targets = omega (arith, c.loop-place-test.true, c.min-place-end.ensures) in
    let right : i < length values = omega (arith, c.loop-place-test.true, c.min-place-end.ensures) in
    paired_more step targets values i c.loop-place.steps
    (c.args.steps.now ++ element_steps (copies c.args.number c.args.strengths c.args.item targets values)) c.loop-place.invariant
    target value left right (get_or_default targets i 0 target left) (get_or_default values i 0 value right) c.push_element.new.steps
    (c.in_ok-push_element.ensures ∙ ap (λ (element : PlanElement). c.loop-place.steps ++ ElementStep element ∷ []) c.in_ok-copy.ensures)

pub returns : goal.returns
returns c =
    let targets = c.args.targets.now in
    let values = c.args.values.now in
    let step = λ (p : ℕ × (ℕ × ℕ)). ElementStep (copied_bit c.args.number (length targets) c.args.strengths c.args.item p) in
    let place = c.loop-place.place in
    let whole = c.args.steps.now ++ element_steps (copies c.args.number c.args.strengths c.args.item targets values) in
    let all : min (length targets) (length values) ≤ place = omega (arith, c.loop-place-test.false, c.min-place-end.ensures) in
    elim (cases_lt place (length targets)) [
      | inl lt ↦ paired_right step targets values place c.loop-place.steps whole c.loop-place.invariant (omega arith)
      | inr le ↦ paired_left step targets values place c.loop-place.steps whole c.loop-place.invariant le
    ]
