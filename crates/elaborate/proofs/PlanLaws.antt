-- What the rules on a file keep of it gives its plans and their counts.
use Rattle.std.proofs.Common.{◌≡◌, ℕ, ◌<◌, Bool, List, length, map, Some, sym, ap, subst, ◌∙◌}
use Rattle.std.specs.List.{range_with_len, zip}
use Rattle.std.proofs.lemmas.List.{length-map}
use Rattle.std.proofs.lemmas.List.FromFn.{length-map-range_with_len}
use Rattle.v_tree.specs.declared.modules.File.{File}
use Rattle.module_graph.specs.Reach.{is_udp_reached}
use Rattle.netlist_scopes.proofs.ScopeLaws.{length-reached_from}
use Rattle.netlist_rules.specs.declared.rules.Rules.{Rules}
use Rattle.netlist_plan.specs.declared.plan.ModulePlan.{ModulePlan}
use Rattle.hierarchy_counts.specs.declared.counts.ModuleCounts.{ModuleCounts}
use Rattle.hierarchy_counts.specs.declared.counts.InstanceCounts.{InstanceCounts}
use Rattle.hierarchy_counts.specs.Hierarchy.{AreWithin}
use Rattle.flattening_laws.specs.Counts.{all_instance_counts, all_module_counts, instance_counts, instance_list, module_counts}
use Rattle.netlist_meaning.specs.Plans.{graph_in, modules_reached, number_among, plan_if, plans_in, primitive_numbers, primitives_reached}
use Rattle.hierarchy_plans.specs.Lists.{plan_list}
use Rattle.hierarchy_plans.proofs.ListLaws.{paired-length}
use Rattle.elaborate.specs.Rules.{AreRulesOf}
use Rattle.elaborate.proofs.IndexLaws.{masters-within}

-- ---- lengths

pub plans-length : (file : File) (top : ℕ) → length (plans_in file top) ≡ length file.modules
plans-length file top = paired-length (plan_if file top) (modules_reached file top) file.modules (length-reached_from file.modules file.udps (Some top))

counts_length : (file : File) (top : ℕ) → length (all_module_counts (plans_in file top)) ≡ length file.modules
counts_length file top = length-map (plans_in file top) module_counts ∙ plans-length file top

pub lists-length : (plans : List ModulePlan) → length (all_instance_counts plans) ≡ length (all_module_counts plans)
lists-length plans = length-map plans (λ (p : ModulePlan). map (instance_counts plans) (instance_list p.steps)) ∙ sym (length-map plans module_counts)

primitives_length : (file : File) (top : ℕ) → length (primitives_reached file top) ≡ length file.udps
primitives_length file top = length-map-range_with_len (is_udp_reached (graph_in file).references (modules_reached file top)) 0 (length file.udps)

pub numbers-same : (file : File) (top : ℕ) (flags : List Bool) → flags ≡ primitives_reached file top → map (number_among flags) (range_with_len 0 (length flags)) ≡ primitive_numbers file top
numbers-same file top flags same =
    ap (λ (fs : List Bool). map (number_among fs) (range_with_len 0 (length fs))) same
    ∙ ap (λ (n : ℕ). map (number_among (primitives_reached file top)) (range_with_len 0 n)) (primitives_length file top)

pub primitives-count : (file : File) (top : ℕ) (flags : List Bool) → flags ≡ primitives_reached file top → length flags ≡ length file.udps
primitives-count file top flags same = ap length same ∙ primitives_length file top

-- ---- lists

module _ (file : File) (top : ℕ) (rules : Rules) (are : AreRulesOf file top rules) where
  pub reached-length : length rules.scopes.reached ≡ length file.modules
  reached-length = ap length are.reached ∙ length-reached_from file.modules file.udps (Some top)

  pub plans-same : plan_list file (primitive_numbers file top) rules.scopes.reached ≡ plans_in file top
  plans-same = ap (λ (flags : List Bool). plan_list file (primitive_numbers file top) flags) are.reached

  module _ (counts : List ModuleCounts) (is : (numbers : List ℕ) → counts ≡ all_module_counts (plan_list file numbers rules.scopes.reached)) where
    pub counts-same : counts ≡ all_module_counts (plans_in file top)
    counts-same = is (primitive_numbers file top) ∙ ap all_module_counts plans-same

    pub top-counted : top < length file.modules → top < length counts
    top-counted less = subst (λ n. top < n) (sym (ap length counts-same ∙ counts_length file top)) less

    module _ (lists : List (List InstanceCounts)) (are_lists : (numbers : List ℕ) → lists ≡ all_instance_counts (plan_list file numbers rules.scopes.reached)) where
      pub instances-same : lists ≡ all_instance_counts (plans_in file top)
      instances-same = are_lists (primitive_numbers file top) ∙ ap all_instance_counts plans-same

      pub as-many : length lists ≡ length counts
      as-many = ap length instances-same ∙ lists-length (plans_in file top) ∙ sym (ap length counts-same)

      pub lists-within : AreWithin (length counts) lists
      lists-within =
          subst (λ n. AreWithin n lists) (sym (ap length counts-same ∙ counts_length file top))
          (subst (λ (ls : List (List InstanceCounts)). AreWithin (length file.modules) ls) (sym instances-same) (masters-within file top))
