use Rattle.std.proofs.Common.{◌≡◌, ℕ, ◌+◌, ◌<◌, ◌++◌, Bool, false, List, [], ◌∷◌, length, get_or, map, take, refl, sym, ap, ◌∙◌, arith}
use Rattle.std.specs.List.{zip}
use Rattle.v_tree.specs.declared.modules.Module.{Module}
use Rattle.module_graph.specs.Graph.{Graph}
use Rattle.module_parts.specs.declared.parts.ModulePart.{ModulePart}
use Rattle.netlist_plan.specs.declared.plan.ModulePlan.{ModulePlan}
use Rattle.hierarchy_plans.specs.Lists.{part_lists, parts_if, plan_list, plan_with, width_lists, widths_if}
use Rattle.hierarchy_plans.proofs.ListLaws.{paired-at, paired-length, paired-more}
use Rattle.hierarchy_plans.proofs.StepLaws.{plan-at, references-at, scope-at}
use Rattle.hierarchy_plans.proofs.plans.plan_list.Goals as goal

pub bounds-parts-i : goal.bounds-parts-i
bounds-parts-i c =
    let file = c.args.file.now in
    let long : length c.args.parts.now ≡ length file.modules = ap length c.requires.parts ∙ paired-length (parts_if file) c.args.rules.now.scopes.reached file.modules c.requires.reached in
    omega (arith, ap length c.as_slice-modules.ensures, c.loop-i-test.true)

pub loop-i-preserved : goal.loop-i-preserved
loop-i-preserved c =
    let file = c.args.file.now in
    let reached = c.as_slice-reached.result.now in
    let i = c.loop-i.i in
    let modules = c.as_slice-modules.result.now in
    let m = c.index-modules-i.result in
    let m_at : m ≡ get_or file.modules i m = c.index-modules-i.is ∙ ap (λ (ms : List Module). get_or ms i m) c.as_slice-modules.ensures in
    let less : i < length file.modules = omega (arith, ap length c.as_slice-modules.ensures, c.loop-i-test.true) in
    let less_reached : i < length reached = omega (arith, ap length c.as_slice-reached.ensures, c.requires.reached, less) in
    let flag : Bool = get_or reached i false in
    let scope_is = scope-at file i m less m_at c.as_slice-scopes.result.now c.index-scopes-i.result (c.as_slice-scopes.ensures ∙ c.requires.scopes) c.index-scopes-i.is in
    let list_is = references-at file i m less m_at c.references-references.result.now c.index-references-i.result (c.references-references.ensures ∙ ap (λ (g : Graph). g.references) c.requires.graph) c.index-references-i.is in
    let own_is : c.as_slice-own.result.now ≡ parts_if file (flag, m)
    = c.as_slice-own.ensures
    ∙ paired-at (parts_if file) reached file.modules c.args.parts.now i false flag m m c.index-parts-i.result
    (c.requires.parts ∙ ap (λ (flags : List Bool). part_lists file flags) (sym c.as_slice-reached.ensures)) less_reached less refl m_at c.index-parts-i.is in
    let plan_is : c.in_ok-plan.plan ≡ plan_with file c.args.numbers.now (flag, m)
    = plan-at file i m less m_at c.args.numbers.now flag c.index-scopes-i.result c.as_slice-list.result.now c.as_slice-own.result.now c.in_ok-plan.plan scope_is (c.as_slice-list.ensures ∙ list_is) own_is c.in_ok-plan.ensures in
    c.in_ok-push.ensures.ok
    ∙ ap (λ (list : List ModulePlan). list ++ c.in_ok-plan.plan ∷ []) c.loop-i.invariant
    ∙ ap (λ (plan : ModulePlan). map (plan_with file c.args.numbers.now) (zip (take i reached) (take i modules)) ++ plan ∷ []) plan_is
    ∙ sym (paired-more (plan_with file c.args.numbers.now) reached modules i false flag m m less_reached c.loop-i-test.true refl c.index-modules-i.is)
