use Rattle.std.proofs.Common.{◌≡◌, ℕ, ◌+◌, ◌<◌, ◌++◌, Bool, false, List, [], ◌∷◌, length, get_or, map, take, refl, sym, ap, ◌∙◌, arith}
use Rattle.std.specs.List.{zip}
use Rattle.v_tree.specs.declared.modules.Module.{Module}
use Rattle.module_graph.specs.Graph.{Graph}
use Rattle.module_parts.specs.declared.parts.ModulePart.{ModulePart}
use Rattle.netlist_plan.specs.declared.plan.ModulePlan.{ModulePlan}
use Rattle.hierarchy_plans.specs.Lists.{part_lists, parts_if, plan_list, plan_with, width_lists, widths_if}
use Rattle.hierarchy_plans.proofs.ListLaws.{element-at, paired-at, paired-length, paired-more}
use Rattle.hierarchy_counts.specs.declared.counts.InstanceCounts.{InstanceCounts}
use Rattle.flattening_laws.specs.Counts.{instance_counts, instance_list}
use Rattle.std.proofs.lemmas.List.{map-append}
use Rattle.hierarchy_plans.proofs.StepLaws.{instances-at, scope-at, widths-same}
use Rattle.hierarchy_plans.proofs.counts.instance_count_lists.Goals as goal

pub bounds-parts-i : goal.bounds-parts-i
bounds-parts-i c =
    let file = c.args.file.now in
    let long : length c.args.parts.now ≡ length file.modules = ap length c.requires.parts ∙ paired-length (parts_if file) c.args.rules.now.scopes.reached file.modules c.requires.reached in
    omega (arith, ap length c.as_slice-i-end.ensures, c.loop-i-test.true)

pub loop-i-preserved : goal.loop-i-preserved
loop-i-preserved c numbers =
    let file = c.args.file.now in
    let reached = c.as_slice-reached.result.now in
    let i = c.loop-i.i in
    let modules = file.modules in
    let less : i < length file.modules = omega (arith, ap length c.as_slice-i-end.ensures, c.loop-i-test.true) in
    let less_reached : i < length reached = omega (arith, ap length c.as_slice-reached.ensures, c.requires.reached, less) in
    let here = element-at file.modules i less in
    let m : Module = here.0 in
    let m_at : m ≡ get_or file.modules i m = here.1 in
    let flag : Bool = get_or reached i false in
    let scope_is = scope-at file i m less m_at c.as_slice-scopes.result.now c.index-scopes-i.result (c.as_slice-scopes.ensures ∙ c.requires.scopes) c.index-scopes-i.is in
    let own_is : c.as_slice-own.result.now ≡ parts_if file (flag, m)
    = c.as_slice-own.ensures
    ∙ paired-at (parts_if file) reached file.modules c.args.parts.now i false flag m m c.index-parts-i.result
    (c.requires.parts ∙ ap (λ (flags : List Bool). part_lists file flags) (sym c.as_slice-reached.ensures)) less_reached less refl m_at c.index-parts-i.is in
    let plans : List ModulePlan = plan_list file numbers reached in
    let counts_of : ModulePlan → List InstanceCounts = λ p. map (instance_counts plans) (instance_list p.steps) in
    let before : List ModulePlan = map (plan_with file numbers) (zip (take i reached) (take i modules)) in
    let counts_are : c.in_ok-instances_if.field-0 ≡ counts_of (plan_with file numbers (flag, m))
    = instances-at file i m less m_at numbers plans c.args.widths.now flag c.index-scopes-i.result c.as_slice-own.result.now c.in_ok-instances_if.field-0 scope_is own_is
    (widths-same file numbers reached ∙ sym (c.requires.widths ∙ ap (λ (flags : List Bool). width_lists file flags) (sym c.as_slice-reached.ensures))) c.in_ok-instances_if.ensures in
    c.in_ok-push.ensures.ok
    ∙ ap (λ (list : List (List InstanceCounts)). list ++ c.in_ok-instances_if.field-0 ∷ []) (c.loop-i.invariant numbers)
    ∙ ap (λ (counts : List InstanceCounts). map counts_of before ++ counts ∷ []) counts_are
    ∙ sym (map-append counts_of before (plan_with file numbers (flag, m) ∷ []))
    ∙ ap (map counts_of) (sym (paired-more (plan_with file numbers) reached modules i false flag m m less_reached less refl m_at))
