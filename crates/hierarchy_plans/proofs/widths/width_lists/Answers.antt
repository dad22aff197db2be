use Rattle.std.proofs.Common.{◌≡◌, ℕ, ◌+◌, ◌<◌, ◌++◌, Bool, false, List, [], ◌∷◌, length, get_or, map, take, refl, sym, ap, ◌∙◌, arith}
use Rattle.std.specs.List.{zip}
use Rattle.v_tree.specs.declared.modules.Module.{Module}
use Rattle.module_graph.specs.Graph.{Graph}
use Rattle.module_parts.specs.declared.parts.ModulePart.{ModulePart}
use Rattle.netlist_plan.specs.declared.plan.ModulePlan.{ModulePlan}
use Rattle.hierarchy_plans.specs.Lists.{part_lists, parts_if, plan_list, plan_with, width_lists, widths_if}
use Rattle.hierarchy_plans.proofs.ListLaws.{element-at, paired-at, paired-length, paired-more}
use Rattle.hierarchy_plans.proofs.StepLaws.{widths-at}
use Rattle.hierarchy_plans.proofs.widths.width_lists.Goals as goal

pub loop-i-preserved : goal.loop-i-preserved
loop-i-preserved c =
    let file = c.args.file.now in
    let reached = c.as_slice-reached.result.now in
    let i = c.loop-i.i in
    let modules = file.modules in
    let less : i < length file.modules = omega (arith, ap length c.as_slice-i-end.ensures, c.loop-i-test.true) in
    let less_reached : i < length reached = omega (arith, ap length c.as_slice-reached.ensures, c.requires.reached, less) in
    let here = element-at file.modules i less in
    let m : Module = here.0 in
    let m_at : m ≡ get_or file.modules i m = here.1 in
    let flag : Bool = get_or reached i false in
    let widths_are : c.in_ok-widths_if.field-0 ≡ widths_if file (flag, m)
    = widths-at file i m less m_at flag c.as_slice-tables.result.now c.index-tables-i.result c.in_ok-widths_if.field-0 (c.as_slice-tables.ensures ∙ c.requires.tables) c.index-tables-i.is c.in_ok-widths_if.ensures in
    c.in_ok-push.ensures.ok
    ∙ ap (λ (list : List (List ℕ)). list ++ c.in_ok-widths_if.field-0 ∷ []) c.loop-i.invariant
    ∙ ap (λ (widths : List ℕ). map (widths_if file) (zip (take i reached) (take i modules)) ++ widths ∷ []) widths_are
    ∙ sym (paired-more (widths_if file) reached modules i false flag m m less_reached less refl m_at)
