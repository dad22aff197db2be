use Rattle.std.proofs.Common.{ℕ, List, [], ◌∷◌, ◌++◌, length, get_or, map, refl, sym, ap, ◌∙◌}
use Rattle.std.specs.List.{enumerate_from}
use Rattle.std.proofs.lemmas.List.{get_or_default}
use Rattle.std.proofs.lemmas.Simd.{map-map}
use Rattle.v_lexer.specs.declared.literals.Bit.{Bit}
use Rattle.v_lexer.specs.declared.literals.Bit.TheVariants.{Zero}
use Rattle.netlist_plan.specs.declared.plan.PlanElement.{PlanElement}
use Rattle.netlist_plan.specs.declared.plan.PlanStep.{PlanStep}
use Rattle.netlist_plan.specs.declared.plan.PlanStep.TheVariants.{Element as ElementStep}
use Rattle.netlist_plan.specs.Nets.{literal_first}
use Rattle.netlist_plan.specs.Elements.{constant, literal_constants}
use Rattle.netlist_plan.specs.Plan.{element_steps}
use Rattle.module_plan.proofs.Walks.{seen_all, seen_more}
use Rattle.module_plan.proofs.constants.push_literal.Goals as goal

pub loop-place-init : goal.loop-place-init
loop-place-init c =
    let bits = c.args.bits.now in
    let step = λ (first : ℕ) (p : ℕ × Bit). ElementStep (constant c.args.number (length bits) first p) in
    ap (λ (first : ℕ). c.args.steps.now ++ map (step first) (enumerate_from 0 bits)) c.literal_first-first.ensures
    ∙ ap (λ (made : List PlanStep). c.args.steps.now ++ made)
    (sym (map-map ElementStep (constant c.args.number (length bits) (literal_first c.args.nets.now c.args.number)) (enumerate_from 0 bits)))

pub loop-place-preserved : goal.loop-place-preserved
loop-place-preserved c =
    let bits = c.args.bits.now in
    let i = c.loop-place.place in
    let bit = get_or bits i Zero in
    let step = λ (p : ℕ × Bit). ElementStep (constant c.args.number (length bits) c.literal_first-first.result p) in
    seen_more step
    (λ (all : List Bit). all) (λ (b : Bit). b) (λ b rest. refl) refl bits i i
    c.loop-place.steps (c.args.steps.now ++ element_steps (literal_constants c.args.nets.now c.args.number bits)) c.loop-place.invariant
    bit c.loop-place-test.true (get_or_default bits i Zero bit c.loop-place-test.true) c.push_element.new.steps
    (c.in_ok-push_element.ensures ∙ ap (λ (element : PlanElement). c.loop-place.steps ++ ElementStep element ∷ []) c.in_ok-constant.ensures)

pub returns : goal.returns
returns c =
    let bits = c.args.bits.now in
    seen_all (λ (p : ℕ × Bit). ElementStep (constant c.args.number (length bits) c.literal_first-first.result p))
    (λ (all : List Bit). all) (λ (bit : Bit). bit) (λ bit rest. refl) refl bits c.loop-place.place c.loop-place.place
    c.loop-place.steps (c.args.steps.now ++ element_steps (literal_constants c.args.nets.now c.args.number bits)) c.loop-place.invariant c.loop-place-test.false
