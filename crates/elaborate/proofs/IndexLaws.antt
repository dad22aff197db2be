-- The instances in plans are of modules of their file.
use Rattle.std.proofs.Common.{◌≡◌, ℕ, ◌+◌, ◌<◌, Bool, true, false, List, [], ◌∷◌, ◌++◌, length, map, Option, None, Some, refl, sym, ap, subst, ◌∙◌, arith}
use Rattle.std.specs.List.{All, AllByRecursion, enumerate_from, flat_map, zip}
use Rattle.std.proofs.lemmas.List.{length-map}
use Rattle.name_table.specs.Names.{index_of}
use Rattle.v_tree.specs.declared.gates.Inst.{Inst}
use Rattle.v_tree.specs.declared.gates.Instance.{Instance as TreeInstance}
use Rattle.v_tree.specs.declared.modules.Item.{Item}
use Rattle.v_tree.specs.declared.modules.Item.TheVariants as item
use Rattle.v_tree.specs.declared.modules.Module.{Module}
use Rattle.v_tree.specs.declared.modules.File.{File}
use Rattle.v_tree.specs.declared.declarations.DeclaredNames.{DeclaredNames}
use Rattle.v_tree.specs.declared.declarations.DeclaredNames.TheVariants as declares
use Rattle.module_scope.specs.declared.scopes.Scope.{Scope}
use Rattle.module_graph.specs.declared.references.Master.{Master}
use Rattle.module_graph.specs.declared.references.Master.TheVariants as master
use Rattle.module_graph.specs.Graph.{master_at, master_of, module_names, udp_names}
use Rattle.module_graph.proofs.NumberLaws.{index_of_at}
use Rattle.module_ports.specs.Ports.{Port}
use Rattle.instance_rules.specs.Links.{ports_of}
use Rattle.hierarchy_counts.specs.declared.counts.InstanceCounts.{InstanceCounts}
use Rattle.hierarchy_counts.specs.Hierarchy.{AreWithin}
use Rattle.module_parts.specs.declared.parts.ModulePart.{ModulePart}
use Rattle.module_parts.specs.declared.parts.ModulePart.TheVariants.{Names, Gate, Pair, Instance}
use Rattle.module_parts.specs.Parts.{declared_parts, gate_part, instance_parts, module_instance, pair_part, parts_of_item, primitive_instance, valued_parts}
use Rattle.netlist_plan.specs.declared.plan.PlanElement.{PlanElement}
use Rattle.netlist_plan.specs.declared.plan.PlanInstance.{PlanInstance}
use Rattle.netlist_plan.specs.declared.plan.PlanStep.{PlanStep}
use Rattle.netlist_plan.specs.declared.plan.PlanStep.TheVariants.{Element as ElementStep, Instance as InstanceStep}
use Rattle.netlist_plan.specs.declared.plan.ModulePlan.{ModulePlan}
use Rattle.netlist_plan.specs.Elements.{constants}
use Rattle.netlist_plan.specs.Nets.{module_nets}
use Rattle.netlist_plan.specs.Plan.{Given, element_steps, gate_elements, own_steps, pair_elements, part_steps}
use Rattle.netlist_plan.specs.Unnamed.{numbered_from, own_count, runs_in, unnamed_count}
use Rattle.flattening_laws.specs.Counts.{all_instance_counts, instance_counts, instance_list}
use Rattle.flattening_laws.proofs.Apart.{All_from_each, each_always, each_flat_map, each_map}
use Rattle.netlist_scopes.specs.Reached.{scope_under}
use Rattle.netlist_rules.specs.Items.{port_tables}
use Rattle.netlist_meaning.specs.Plans.{master_in, meanings_in, modules_reached, parts_in, plan_if, plan_in, plans_in}

-- ---- instances among steps

module _ (n : ℕ) where
  abbrev IsInner : PlanInstance → Type 0
  IsInner i = i.master < n

  abbrev IsPart : ModulePart → Type 0
  IsPart (Names names) = Unit {0}
  IsPart (Gate g) = Unit {0}
  IsPart (Pair p) = Unit {0}
  IsPart (Instance i) = i.master < n

  no_inner : (list : List PlanElement) → AllByRecursion IsInner (instance_list (element_steps list))
  no_inner [] = tt
  no_inner (e ∷ list) = no_inner list

  inner_append : (xs ys : List PlanStep) → AllByRecursion IsInner (instance_list xs) → AllByRecursion IsInner (instance_list ys) → AllByRecursion IsInner (instance_list (xs ++ ys))
  inner_append [] ys some more = more
  inner_append (ElementStep e ∷ xs) ys some more = inner_append xs ys some more
  inner_append (InstanceStep i ∷ xs) ys some more = (some.0, inner_append xs ys some.1 more)

  own_inner : (given : Given) (number : ℕ) (part : ModulePart) → IsPart part → AllByRecursion IsInner (instance_list (own_steps given number part))
  own_inner given number (Names names) is = tt
  own_inner given number (Gate g) is = no_inner (gate_elements given number g)
  own_inner given number (Pair p) is = no_inner (pair_elements given number p)
  own_inner given number (Instance i) is = (is, tt)

  steps_inner : (given : Given) (number : ℕ) (parts : List ModulePart) → AllByRecursion IsPart parts
      → AllByRecursion IsInner (instance_list (flat_map (part_steps given) (numbered_from number parts)))
  steps_inner given number [] all = tt
  steps_inner given number (part ∷ parts) all =
      let first = constants given.nets (number + own_count part) (runs_in part) in
      inner_append (part_steps given (number, part)) (flat_map (part_steps given) (numbered_from (number + unnamed_count part) parts))
      (inner_append (element_steps first) (own_steps given number part) (no_inner first) (own_inner given number part all.0))
      (steps_inner given (number + unnamed_count part) parts all.1)

  -- ---- instances among parts

  instances_part : (index : ℕ) (tables : List (List Port)) (o : Master) (i : TreeInstance) → ((m : ℕ) → o ≡ master.Module m → m < n)
      → AllByRecursion IsPart (instance_parts index tables o i)
  instances_part index tables (master.Module m) i within =
      each_map IsPart (module_instance index m (ports_of tables [] (master.Module m))) i.instances
      (each_always (λ (x : Inst). IsPart (module_instance index m (ports_of tables [] (master.Module m)) x)) i.instances (λ x. within m refl))
  instances_part index tables (master.Udp u) i within =
      each_map IsPart (primitive_instance index (ports_of tables [] (master.Udp u))) i.instances
      (each_always (λ (x : Inst). IsPart (primitive_instance index (ports_of tables [] (master.Udp u)) x)) i.instances (λ x. tt))
  instances_part index tables master.Unknown i within = tt

  declared_part : (scope : Scope) (index : ℕ) (d : DeclaredNames) → AllByRecursion IsPart (declared_parts scope index d)
  declared_part scope index (declares.Names names) = (tt, tt)
  declared_part scope index (declares.Valued names) =
      each_flat_map IsPart (valued_parts scope index) names (each_always (λ v. AllByRecursion IsPart (valued_parts scope index v)) names (λ v. (tt, (tt, tt))))

  item_part : (scope : Scope) (tables : List (List Port)) (of : List ℕ → Master) → ((name : List ℕ) (m : ℕ) → of name ≡ master.Module m → m < n)
      → (x : ℕ × Item) → AllByRecursion IsPart (parts_of_item scope tables of x)
  item_part scope tables of within (index, item.Ports d) = (tt, tt)
  item_part scope tables of within (index, item.Nets d) = declared_part scope index d.declared_names
  item_part scope tables of within (index, item.Trireg d) = (tt, tt)
  item_part scope tables of within (index, item.Assign a) =
      each_map IsPart (pair_part scope index) a.pairs (each_always (λ p. IsPart (pair_part scope index p)) a.pairs (λ p. tt))
  item_part scope tables of within (index, item.Gates g) =
      each_map IsPart (gate_part index) g.gates (each_always (λ t. IsPart (gate_part index t)) g.gates (λ t. tt))
  item_part scope tables of within (index, item.Instances i) = instances_part index tables (of i.name.text) i (within i.name.text)
  item_part scope tables of within (index, item.Cell c) = tt
  item_part scope tables of within (index, item.Specify s) = tt

-- ---- names of modules

master_within : (names udps : List (List ℕ)) (name : List ℕ) (m : ℕ) → master_of names udps name ≡ master.Module m → m < length names
master_within names udps name m is = by_index (index_of name names) refl is
  where
    by_other : (o : Option ℕ) → master_at None o ≡ master.Module m → m < length names
    by_other (Some u) e = absurd cc
    by_other None e = absurd cc

    by_index : (o : Option ℕ) → index_of name names ≡ o → master_at o (index_of name udps) ≡ master.Module m → m < length names
    by_index (Some k) at e = let same : k ≡ m = cc in subst (λ i. i < length names) same (index_of_at name names k at).0
    by_index None at e = by_other (index_of name udps) e

-- ---- plans

module _ (file : File) (top : ℕ) where
  plan_inner : (m : Module) → AllByRecursion (IsInner (length file.modules)) (instance_list (plan_in file top m).steps)
  plan_inner m =
      let n = length file.modules in
      let scope = scope_under file.directives m in
      let tables = port_tables file.directives file.modules in
      let given : Given = record { scope = scope; nets = module_nets scope (parts_in file m); items = m.items; meanings = meanings_in file top } in
      let within : (name : List ℕ) (k : ℕ) → master_in file name ≡ master.Module k → k < n
      = λ name k e. subst (λ count. k < count) (length-map file.modules (λ (x : Module). x.name.text)) (master_within (module_names file.modules) (udp_names file.udps) name k e) in
      steps_inner n given 0 (parts_in file m) (
        tt,
        each_flat_map (IsPart n) (parts_of_item scope tables (master_in file)) (enumerate_from 0 m.items)
            (each_always (λ x. AllByRecursion (IsPart n) (parts_of_item scope tables (master_in file) x)) (enumerate_from 0 m.items) (item_part n scope tables (master_in file) within)),
      )

  counts_inner : (plans : List ModulePlan) (list : List PlanInstance) → AllByRecursion (IsInner (length file.modules)) list
      → All (λ i. i.master < length file.modules) (map (instance_counts plans) list)
  counts_inner plans list all =
      All_from_each (λ (i : InstanceCounts). i.master < length file.modules) (map (instance_counts plans) list)
      (each_map (λ (i : InstanceCounts). i.master < length file.modules) (instance_counts plans) list all)

  plans_inner : (flags : List Bool) (modules : List Module)
      → AllByRecursion (λ (p : ModulePlan). AllByRecursion (IsInner (length file.modules)) (instance_list p.steps)) (map (plan_if file top) (zip flags modules))
  plans_inner [] modules = tt
  plans_inner (flag ∷ flags) [] = tt
  plans_inner (true ∷ flags) (m ∷ modules) = (plan_inner m, plans_inner flags modules)
  plans_inner (false ∷ flags) (m ∷ modules) = (tt, plans_inner flags modules)

  all_inner : (all plans : List ModulePlan) → AllByRecursion (λ (p : ModulePlan). AllByRecursion (IsInner (length file.modules)) (instance_list p.steps)) plans
      → AllByRecursion (All (λ i. i.master < length file.modules)) (map (λ p. map (instance_counts all) (instance_list p.steps)) plans)
  all_inner all [] each = tt
  all_inner all (p ∷ plans) each = (counts_inner all (instance_list p.steps) each.0, all_inner all plans each.1)

  -- each instance of a plan is of a module of the file
  pub masters-within : AreWithin (length file.modules) (all_instance_counts (plans_in file top))
  masters-within =
      All_from_each (All (λ i. i.master < length file.modules)) (all_instance_counts (plans_in file top))
      (all_inner (plans_in file top) (plans_in file top) (plans_inner (modules_reached file top) file.modules))
