use Rattle.std.proofs.Common.{List, map, sym, ap, ◌∙◌}
use Rattle.v_tree.specs.declared.modules.Item.{Item}
use Rattle.module_graph.specs.Graph.{references_in}
use Rattle.netlist_plan.specs.Plan.{plan_net}
use Rattle.module_plan.specs.Meant.{meanings}
use Rattle.module_plan.proofs.Steps.{module_plan-parts}
use Rattle.module_plan.proofs.plans.module_plan.Goals as goal

pub returns : goal.returns
returns c = λ of same.
    let scope = c.args.scope.now in
    let meant = meanings of c.args.udp_numbers.now in
    let items = c.as_slice-items.result.now in
    let forms = c.in_ok-forms.ensures of (same ∙ ap (λ (is : List Item). references_in of is) (sym c.as_slice-items.ensures)) in
    module_plan-parts scope meant c.args.«module».now c.args.parts.now c.in_ok-nets.nets items c.in_ok-nets.ensures c.as_slice-items.ensures
    c.in_ok-plan_nets.field-0 c.in_ok-plan_ports.field-0 c.in_ok-plan_steps.field-0 c.in_ok-switch_terminals.field-0
    (c.in_ok-plan_nets.ensures ∙ ap (map (plan_net scope)) c.as_slice.ensures)
    c.in_ok-plan_ports.ensures
    (c.in_ok-plan_steps.ensures meant (c.as_slice-2.ensures.value ∙ forms))
    c.in_ok-switch_terminals.ensures
