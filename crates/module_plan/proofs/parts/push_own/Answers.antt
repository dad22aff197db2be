use Rattle.std.proofs.Common.{◌≡◌, [], ◌∷◌, ◌++◌, map, sym, ap, ◌∙◌}
use Rattle.module_parts.specs.declared.parts.ModulePart.{ModulePart}
use Rattle.netlist_plan.specs.declared.plan.PlanInstance.{PlanInstance}
use Rattle.netlist_plan.specs.declared.plan.PlanStep.TheVariants.{Instance as InstanceStep}
use Rattle.netlist_plan.specs.Plan.{Meanings, element_steps, gate_elements, item_form, own_steps, pair_elements}
use Rattle.module_nets.proofs.Gaining.{ok_then}
use Rattle.module_plan.specs.Surroundings.{given}
use Rattle.module_plan.proofs.parts.push_own.Goals as goal

pub returns-in-Gate : goal.returns-in-Gate
returns-in-Gate c =
    let old = c.args.steps.now in
    let new = c.push_gate_elements.new.steps in
    let from = given c.args.scope.now c.args.nets.now c.args.items.now in
    let number = c.args.number in
    ok_then c.push_gate_elements.result
    ((meant : Meanings) → c.args.forms.now ≡ map (item_form meant) c.args.items.now → new ≡ old ++ element_steps (gate_elements (from meant) number c.in-Gate.gate))
    ((meant : Meanings) → c.args.forms.now ≡ map (item_form meant) c.args.items.now → new ≡ old ++ own_steps (from meant) number c.args.part.now)
    c.push_gate_elements.ensures
    (λ given_all. λ meant forms. given_all meant forms ∙ ap (λ (part : ModulePart). old ++ own_steps (from meant) number part) (sym c.in-Gate.is))

pub returns-in-Pair : goal.returns-in-Pair
returns-in-Pair c =
    let old = c.args.steps.now in
    let new = c.push_pair_elements.new.steps in
    let from = given c.args.scope.now c.args.nets.now c.args.items.now in
    let number = c.args.number in
    ok_then c.push_pair_elements.result
    ((meant : Meanings) → new ≡ old ++ element_steps (pair_elements (from meant) number c.in-Pair.pair))
    ((meant : Meanings) → c.args.forms.now ≡ map (item_form meant) c.args.items.now → new ≡ old ++ own_steps (from meant) number c.args.part.now)
    c.push_pair_elements.ensures
    (λ given_all. λ meant forms. given_all meant ∙ ap (λ (part : ModulePart). old ++ own_steps (from meant) number part) (sym c.in-Pair.is))

pub returns-in_ok-plan-in-Instance : goal.returns-in_ok-plan-in-Instance
returns-in_ok-plan-in-Instance c =
    let old = c.args.steps.now in
    let new = c.push.new.self in
    let from = given c.args.scope.now c.args.nets.now c.args.items.now in
    let number = c.args.number in
    ok_then c.push.result
    (new ≡ old ++ InstanceStep c.in_ok-plan-in-Instance.plan ∷ [])
    ((meant : Meanings) → c.args.forms.now ≡ map (item_form meant) c.args.items.now → new ≡ old ++ own_steps (from meant) number c.args.part.now)
    c.push.ensures.ok
    (λ e. λ meant forms.
    e
    ∙ ap (λ (plan : PlanInstance). old ++ InstanceStep plan ∷ []) (c.in_ok-plan-in-Instance.ensures c.args.items.now meant)
    ∙ ap (λ (part : ModulePart). old ++ own_steps (from meant) number part) (sym c.in-Instance.is))
