use Rattle.std.proofs.Common.{ℕ, ◌+◌, List, map, ap, ◌∙◌}
use Rattle.v_tree.specs.declared.modules.Item.{Item}
use Rattle.netlist_plan.specs.declared.nets.ModuleNet.{ModuleNet}
use Rattle.netlist_plan.specs.Plan.{plan_net}
use Rattle.netlist_plan.specs.Flattening.{bit_count}
use Rattle.plan_counts.specs.PartCounts.{elements_in}
use Rattle.plan_counts.proofs.CountLaws.{counts-are}
use Rattle.plan_counts.proofs.modules.module_counts.Goals as goal

pub returns : goal.returns
returns c = λ given.
    let scope = c.args.scope.now in
    let parts = c.args.parts.now in
    counts-are scope given c.args.module.now parts c.in_ok-nets.nets c.in_ok-elements.elements c.in_ok-names.names
    (c.in_ok-nets.ensures ∙ ap (λ (nets : List ModuleNet). bit_count (map (plan_net scope) nets)) (c.as_slice.ensures ∙ c.in_ok-table.ensures))
    (c.in_ok-elements.ensures ∙ ap (λ (items : List Item). elements_in scope items parts) c.as_slice-2.ensures)
    (c.in_ok-names.ensures ∙ ap (λ (n : ℕ). c.in_ok-nets.nets + n) c.in_ok-instances_in.ensures)
