-- Where no rule is broken and the hierarchy has few levels and elements, all plans are sound.
use Rattle.std.proofs.Common.{◌≡◌, ℕ, zero, suc, ◌+◌, ◌<◌, ◌≤◌, Bool, true, false, List, [], ◌∷◌, length, map, Some, None, sym, ap, subst, ◌∙◌, arith, inl, inr, ◌⊎◌}
use Rattle.std.specs.Prelude.{slice_get, slice_index_or, sum_by}
use Rattle.std.specs.List.{All, AllByRecursion, range_with_len}
use Rattle.v_tree.specs.declared.modules.Module.{Module}
use Rattle.v_tree.specs.declared.modules.File.{File}
use Rattle.v_tree.specs.declared.gates.Instance.{Instance as TreeInstance}
use Rattle.module_graph.specs.declared.references.Reference.{Reference}
use Rattle.module_graph.specs.Reach.{instantiates, is_reached}
use Rattle.module_graph.proofs.ReachLaws.{instantiates_within, is_reached_top}
use Rattle.instance_rules.specs.Places.{instances_in}
use Rattle.hierarchy_counts.specs.declared.counts.ModuleCounts.{ModuleCounts}
use Rattle.hierarchy_counts.specs.declared.counts.InstanceCounts.{InstanceCounts}
use Rattle.hierarchy_counts.specs.Hierarchy.{Measure, inside, instance_own, instances_at, levels_inside, module_at}
use Rattle.hierarchy_counts.specs.Hierarchy.Measure.{Elements}
use Rattle.std.proofs.lemmas.List.Sums.{sum_by-cons}
use Rattle.netlist_plan.specs.declared.plan.ModulePlan.{ModulePlan}
use Rattle.netlist_plan.specs.Flattening.{no_plan}
use Rattle.flattening_laws.specs.Counts.{all_instance_counts, all_module_counts, element_list, module_counts}
use Rattle.flattening_laws.specs.SoundPlans.{IsSoundPlan}
use Rattle.flattening_laws.proofs.Apart.{All_from_each, each_at, each_from_at, each_weaker}
use Rattle.flattening_laws.proofs.Numbers.{get_mapped_range}
use Rattle.flattening_laws.proofs.SoundLaws.{none_sound}
use Rattle.size_laws.proofs.ReachLaws.{HasMaster, reached-elements}
use Rattle.netlist_meaning.specs.Plans.{graph_in, modules_reached, plan_in, plans_in, primitives_in}
use Rattle.netlist_meaning.specs.Limits.{total}
use Rattle.file_laws.specs.FileFacts.{AreModuleFacts}
use Rattle.file_laws.proofs.KeptLaws.{modules-fit}
use Rattle.netlist_laws.specs.Unbroken.{AreUnbroken}
use Rattle.netlist_laws.proofs.RuleLaws.{plan_cases}
use Rattle.netlist_laws.proofs.InstanceLaws.{instantiated-counts}
use Rattle.netlist_laws.proofs.ModuleLaws.{module-sound}

-- ---- lists

flag_is : (f : ℕ → Bool) (a n k : ℕ) → slice_index_or (map f (range_with_len a n)) k false ≡ true → f (a + k) ≡ true
flag_is f a zero k e = absurd (let no : false ≡ true = e in cc)
flag_is f a (suc n) zero e = subst (λ (i : ℕ). f i ≡ true) (omega arith) e
flag_is f a (suc n) (suc k) e = subst (λ (i : ℕ). f i ≡ true) (omega arith) (flag_is f (a + 1) n k e)

counts_at : (plans : List ModulePlan) (k : ℕ) (p : ModulePlan) → slice_get plans k ≡ Some p → module_at (all_module_counts plans) k ≡ module_counts p
counts_at [] k p e = absurd (let no : None ≡ Some p = e in cc)
counts_at (q ∷ plans) zero p e = let same : q ≡ p = cc in ap module_counts same
counts_at (q ∷ plans) (suc k) p e = counts_at plans k p e

-- ---- counts

sum_grows : (f g : InstanceCounts → ℕ) (list : List InstanceCounts) → ((i : InstanceCounts) → f i ≤ g i) → sum_by f list ≤ sum_by g list
sum_grows f g [] le = omega arith
sum_grows f g (i ∷ list) le = omega (arith, sum_by-cons f i list, sum_by-cons g i list, le i, sum_grows f g list le)

-- more levels hold no less
pub inside-grows : (measure : Measure) (modules : List ModuleCounts) (instances : List (List InstanceCounts)) (levels index : ℕ)
    → inside measure modules instances levels index ≤ inside measure modules instances (suc levels) index
unfolding inside
inside-grows measure modules instances zero index = omega arith
inside-grows measure modules instances (suc levels) index =
    sum_grows (λ i. instance_own measure modules i + inside measure modules instances levels i.master) (λ i. instance_own measure modules i + inside measure modules instances (suc levels) i.master)
    (instances_at instances index) (λ i. omega (arith, inside-grows measure modules instances levels i.master))

-- ---- plans

module _ (file : File) (top : ℕ) where
  abbrev references : List (List Reference)
  references = (graph_in file).references

  filled : AllByRecursion (λ (m : Module). AllByRecursion (λ (i : TreeInstance). 0 < length i.instances) (instances_in m.items)) file.modules
  filled = each_weaker (AreModuleFacts file) (λ (m : Module). AllByRecursion (λ (i : TreeInstance). 0 < length i.instances) (instances_in m.items)) file.modules (λ m facts. facts.instances) (modules-fit file)

  follows : (a b : ℕ) → is_reached references top a ≡ true → instantiates references a b ≡ true → HasMaster b (instances_at (all_instance_counts (plans_in file top)) a)
  follows a b there e =
      instantiated-counts file top a b filled
      (get_mapped_range (is_reached references top) 0 (length references) a false (instantiates_within references a b e) ∙ subst (λ (i : ℕ). is_reached references top i ≡ true) (omega arith) there) e

  -- a reached module has no more elements than the top with all that is in it
  few_elements : (k : ℕ) (p : ModulePlan) → levels_inside (all_instance_counts (plans_in file top)) 64 top < 64 → slice_get (plans_in file top) k ≡ Some p
      → slice_index_or (modules_reached file top) k false ≡ true → length (element_list p.steps) ≤ total Elements (plans_in file top) top
  few_elements k p levels at there =
      let reached : is_reached references top k ≡ true = subst (λ (i : ℕ). is_reached references top i ≡ true) (omega arith) (flag_is (is_reached references top) 0 (length references) k there) in
      let most = reached-elements (all_module_counts (plans_in file top)) (all_instance_counts (plans_in file top)) references top follows 64 k levels (is_reached_top references top) reached in
      let same = ap (λ (c : ModuleCounts). c.elements) (counts_at (plans_in file top) k p at) in
      omega (arith, most, same)

  pub plans-sound : AreUnbroken file top → levels_inside (all_instance_counts (plans_in file top)) 64 top < 64 → total Elements (plans_in file top) top ≤ 1048576
      → All (IsSoundPlan (primitives_in file top)) (plans_in file top)
  plans-sound unbroken levels few = All_from_each (IsSoundPlan (primitives_in file top)) (plans_in file top) (each_from_at (IsSoundPlan (primitives_in file top)) (plans_in file top) at)
    where
      by_case : (k : ℕ) (p : ModulePlan) → slice_get (plans_in file top) k ≡ Some p
          → (no_plan ≡ p) ⊎ ((m : Module) × (slice_get file.modules k ≡ Some m) × (slice_index_or (modules_reached file top) k false ≡ true) × (plan_in file top m ≡ p))
          → IsSoundPlan (primitives_in file top) p
      by_case k p here (inl e) = subst (IsSoundPlan (primitives_in file top)) e (none_sound (primitives_in file top))
      by_case k p here (inr (m, is, there, e)) =
          let most = few_elements k p levels here there in
          subst (IsSoundPlan (primitives_in file top)) e
          (module-sound file top k m unbroken is there (each_at (AreModuleFacts file) file.modules k m (modules-fit file) is)
          (subst (λ (q : ModulePlan). length (element_list q.steps) ≤ 1048576) (sym e) (omega (arith, most, few))))

      at : (k : ℕ) (p : ModulePlan) → slice_get (plans_in file top) k ≡ Some p → IsSoundPlan (primitives_in file top) p
      at k p here = by_case k p here (plan_cases file top (modules_reached file top) file.modules k p here)
