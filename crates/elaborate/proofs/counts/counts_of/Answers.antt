use Rattle.std.proofs.Common.{◌≡◌, ℕ, ◌+◌, List, ap, sym, ◌∙◌}
use Rattle.hierarchy_counts.specs.declared.counts.ModuleCounts.{ModuleCounts}
use Rattle.hierarchy_counts.specs.declared.counts.InstanceCounts.{InstanceCounts}
use Rattle.hierarchy_counts.specs.Hierarchy.{levels_inside, whole}
use Rattle.hierarchy_counts.specs.Hierarchy.Measure.{Elements, Names, Nets}
use Rattle.hierarchy_counts.specs.Rounds.{cap}
use Rattle.flattening_laws.specs.Counts.{all_instance_counts, all_module_counts}
use Rattle.netlist_meaning.specs.Plans.{plans_in}
use Rattle.elaborate.proofs.PlanLaws.{as-many, counts-same, instances-same, lists-within, reached-length, top-counted}
use Rattle.elaborate.proofs.counts.counts_of.Goals as goal

pub module_count_list-requires-clause-reached : goal.module_count_list-requires-clause-reached
module_count_list-requires-clause-reached c = reached-length c.args.file.now c.args.top c.args.rules.now c.requires.rules

pub width_lists-requires-clause-reached : goal.width_lists-requires-clause-reached
width_lists-requires-clause-reached c = reached-length c.args.file.now c.args.top c.args.rules.now c.requires.rules

pub instance_count_lists-requires-clause-reached : goal.instance_count_lists-requires-clause-reached
instance_count_lists-requires-clause-reached c = reached-length c.args.file.now c.args.top c.args.rules.now c.requires.rules

pub hierarchy_counts-requires-clause-lists : goal.hierarchy_counts-requires-clause-lists
hierarchy_counts-requires-clause-lists c =
    as-many c.args.file.now c.args.top c.args.rules.now c.requires.rules c.deref.result.now (λ numbers. c.deref.ensures.value ∙ c.in_ok-counts.ensures numbers)
    c.as_slice-2.result.now (λ numbers. c.as_slice-2.ensures ∙ c.in_ok-instances.ensures numbers)

pub hierarchy_counts-requires-clause-within : goal.hierarchy_counts-requires-clause-within
hierarchy_counts-requires-clause-within c =
    lists-within c.args.file.now c.args.top c.args.rules.now c.requires.rules c.deref.result.now (λ numbers. c.deref.ensures.value ∙ c.in_ok-counts.ensures numbers)
    c.as_slice-2.result.now (λ numbers. c.as_slice-2.ensures ∙ c.in_ok-instances.ensures numbers)

pub hierarchy_counts-requires-clause-top : goal.hierarchy_counts-requires-clause-top
hierarchy_counts-requires-clause-top c =
    top-counted c.args.file.now c.args.top c.args.rules.now c.requires.rules c.deref.result.now (λ numbers. c.deref.ensures.value ∙ c.in_ok-counts.ensures numbers) c.requires.top

pub returns-clause-depth : goal.returns-clause-depth
returns-clause-depth c =
    let instances = instances-same c.args.file.now c.args.top c.args.rules.now c.requires.rules c.deref.result.now (λ numbers. c.deref.ensures.value ∙ c.in_ok-counts.ensures numbers)
    c.as_slice-2.result.now (λ numbers. c.as_slice-2.ensures ∙ c.in_ok-instances.ensures numbers) in
    c.in_ok-counts-2.ensures.depth ∙ ap (λ (lists : List (List InstanceCounts)). 1 + levels_inside lists 64 c.args.top) instances

pub returns-clause-nets : goal.returns-clause-nets
returns-clause-nets c =
    let counts = counts-same c.args.file.now c.args.top c.args.rules.now c.requires.rules c.deref.result.now (λ numbers. c.deref.ensures.value ∙ c.in_ok-counts.ensures numbers) in
    let instances = instances-same c.args.file.now c.args.top c.args.rules.now c.requires.rules c.deref.result.now (λ numbers. c.deref.ensures.value ∙ c.in_ok-counts.ensures numbers)
    c.as_slice-2.result.now (λ numbers. c.as_slice-2.ensures ∙ c.in_ok-instances.ensures numbers) in
    c.in_ok-counts-2.ensures.nets
    ∙ ap (λ (cs : List ModuleCounts). cap (whole Nets cs c.as_slice-2.result.now 64 c.args.top)) counts
    ∙ ap (λ (lists : List (List InstanceCounts)). cap (whole Nets (all_module_counts (plans_in c.args.file.now c.args.top)) lists 64 c.args.top)) instances

pub returns-clause-elements : goal.returns-clause-elements
returns-clause-elements c =
    let counts = counts-same c.args.file.now c.args.top c.args.rules.now c.requires.rules c.deref.result.now (λ numbers. c.deref.ensures.value ∙ c.in_ok-counts.ensures numbers) in
    let instances = instances-same c.args.file.now c.args.top c.args.rules.now c.requires.rules c.deref.result.now (λ numbers. c.deref.ensures.value ∙ c.in_ok-counts.ensures numbers)
    c.as_slice-2.result.now (λ numbers. c.as_slice-2.ensures ∙ c.in_ok-instances.ensures numbers) in
    c.in_ok-counts-2.ensures.elements
    ∙ ap (λ (cs : List ModuleCounts). cap (whole Elements cs c.as_slice-2.result.now 64 c.args.top)) counts
    ∙ ap (λ (lists : List (List InstanceCounts)). cap (whole Elements (all_module_counts (plans_in c.args.file.now c.args.top)) lists 64 c.args.top)) instances

pub returns-clause-names : goal.returns-clause-names
returns-clause-names c =
    let counts = counts-same c.args.file.now c.args.top c.args.rules.now c.requires.rules c.deref.result.now (λ numbers. c.deref.ensures.value ∙ c.in_ok-counts.ensures numbers) in
    let instances = instances-same c.args.file.now c.args.top c.args.rules.now c.requires.rules c.deref.result.now (λ numbers. c.deref.ensures.value ∙ c.in_ok-counts.ensures numbers)
    c.as_slice-2.result.now (λ numbers. c.as_slice-2.ensures ∙ c.in_ok-instances.ensures numbers) in
    c.in_ok-counts-2.ensures.names
    ∙ ap (λ (cs : List ModuleCounts). cap (whole Names cs c.as_slice-2.result.now 64 c.args.top)) counts
    ∙ ap (λ (lists : List (List InstanceCounts)). cap (whole Names (all_module_counts (plans_in c.args.file.now c.args.top)) lists 64 c.args.top)) instances
