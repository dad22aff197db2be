use Rattle.std.proofs.Common.{◌≡◌, ℕ, ◌+◌, ◌<◌, ◌++◌, Bool, false, List, [], ◌∷◌, length, get_or, map, take, refl, sym, ap, ◌∙◌, arith}
use Rattle.std.specs.List.{zip}
use Rattle.v_tree.specs.declared.modules.Module.{Module}
use Rattle.module_graph.specs.Graph.{Graph}
use Rattle.module_parts.specs.declared.parts.ModulePart.{ModulePart}
use Rattle.netlist_plan.specs.declared.plan.ModulePlan.{ModulePlan}
use Rattle.hierarchy_plans.specs.Lists.{part_lists, parts_if, plan_list, plan_with, width_lists, widths_if}
use Rattle.hierarchy_plans.proofs.ListLaws.{paired-at, paired-length, paired-more}
use Rattle.hierarchy_plans.proofs.StepLaws.{parts-at, references-at, scope-at}
use Rattle.hierarchy_plans.proofs.parts.part_lists.Goals as goal

pub loop-i-preserved : goal.loop-i-preserved
loop-i-preserved c =
    let file = c.args.file.now in
    let reached = c.as_slice-reached.result.now in
    let i = c.loop-i.i in
    let modules = c.as_slice-modules.result.now in
    let m = c.index-modules-i.result in
    let m_at : m ≡ get_or file.modules i m = c.index-modules-i.is ∙ ap (λ (ms : List Module). get_or ms i m) c.as_slice-modules.ensures in
    let less : i < length file.modules = omega (arith, ap length c.as_slice-modules.ensures, c.loop-i-test.true) in
    let less_reached : i < length reached = omega (arith, ap length c.as_slice-reached.ensures, c.requires.reached, less) in
    let flag : Bool = get_or reached i false in
    let scope_is = scope-at file i m less m_at c.as_slice-scopes.result.now c.index-scopes-i.result (c.as_slice-scopes.ensures ∙ c.requires.scopes) c.index-scopes-i.is in
    let list_is = references-at file i m less m_at c.references-references.result.now c.index-references-i.result (c.references-references.ensures ∙ ap (λ (g : Graph). g.references) c.requires.graph) c.index-references-i.is in
    let parts_are : c.in_ok-parts.parts ≡ parts_if file (flag, m)
    = parts-at file i m less m_at flag c.index-scopes-i.result c.as_slice-list.result.now c.as_slice-tables.result.now c.in_ok-parts.parts scope_is (c.as_slice-list.ensures ∙ list_is) (c.as_slice-tables.ensures ∙ c.requires.tables) c.in_ok-parts.ensures in
    c.in_ok-push.ensures.ok
    ∙ ap (λ (list : List (List ModulePart)). list ++ c.in_ok-parts.parts ∷ []) c.loop-i.invariant
    ∙ ap (λ (parts : List ModulePart). map (parts_if file) (zip (take i reached) (take i modules)) ++ parts ∷ []) parts_are
    ∙ sym (paired-more (parts_if file) reached modules i false flag m m less_reached c.loop-i-test.true refl c.index-modules-i.is)
