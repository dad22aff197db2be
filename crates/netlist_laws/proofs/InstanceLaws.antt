-- A module that another instantiates is the module of an instance in the other's plan.
use Rattle.std.proofs.Common.{◌≡◌, ℕ, zero, suc, ◌+◌, ◌<◌, Bool, true, false, ◌||◌, List, [], ◌∷◌, ◌++◌, length, map, refl, sym, ap, subst, arith, inl, inr, ◌⊎◌}
use Rattle.std.specs.Prelude.{slice_index_or}
use Rattle.std.specs.List.{AllByRecursion, enumerate_from, flat_map, zip}
use Rattle.std.proofs.lemmas.Bool.{eqb-true}
use Rattle.chosen_delays.specs.Made.{no_delays}
use Rattle.v_tree.specs.declared.gates.Inst.{Inst}
use Rattle.v_tree.specs.declared.gates.Instance.{Instance as TreeInstance}
use Rattle.v_tree.specs.declared.modules.Item.{Item}
use Rattle.v_tree.specs.declared.modules.Item.TheVariants as item
use Rattle.v_tree.specs.declared.modules.Module.{Module}
use Rattle.v_tree.specs.declared.modules.File.{File}
use Rattle.module_scope.specs.declared.scopes.Scope.{Scope}
use Rattle.module_graph.specs.declared.references.Master.{Master}
use Rattle.module_graph.specs.declared.references.Master.TheVariants as master
use Rattle.module_graph.specs.Graph.{references_in}
use Rattle.module_graph.specs.Reach.{instantiates, is_module, refers_to}
use Rattle.module_ports.specs.Ports.{Port}
use Rattle.instance_rules.specs.Links.{MasterPorts, ports_of}
use Rattle.instance_rules.specs.Places.{instances_in}
use Rattle.hierarchy_counts.specs.Hierarchy.{instances_at}
use Rattle.module_parts.specs.declared.parts.ModulePart.{ModulePart}
use Rattle.module_parts.specs.declared.parts.ModulePart.TheVariants.{Names, Gate, Pair, Instance}
use Rattle.module_parts.specs.Parts.{instance_parts, module_instance, parts_of_item}
use Rattle.netlist_plan.specs.declared.plan.PlanInstance.{PlanInstance}
use Rattle.netlist_plan.specs.declared.plan.PlanStep.{PlanStep}
use Rattle.netlist_plan.specs.declared.plan.PlanStep.TheVariants.{Element as ElementStep, Instance as InstanceStep}
use Rattle.netlist_plan.specs.declared.plan.ModulePlan.{ModulePlan}
use Rattle.netlist_plan.specs.Unnamed.{numbered_from, own_count, runs_in, unnamed_count}
use Rattle.netlist_plan.specs.Elements.{constants}
use Rattle.netlist_plan.specs.Flattening.{Hierarchy, no_plan}
use Rattle.netlist_plan.specs.Plan.{Given, element_steps, own_steps, part_steps}
use Rattle.flattening_laws.specs.Counts.{all_instance_counts, instance_counts, instance_list}
use Rattle.flattening_laws.proofs.CountLaws.{instances_are}
use Rattle.size_laws.proofs.ReachLaws.{HasMaster}
use Rattle.netlist_scopes.specs.Reached.{scope_under}
use Rattle.netlist_rules.specs.Items.{port_tables}
use Rattle.netlist_plan.specs.Nets.{module_nets}
use Rattle.netlist_meaning.specs.Plans.{graph_in, master_in, meanings_in, modules_reached, parts_in, plan_if, plan_in, plans_in}

-- ---- instances among steps

abbrev pub HasInner : ℕ → List PlanInstance → Type 0
HasInner b [] = ⊥
HasInner b (i ∷ list) = (i.master ≡ b) ⊎ HasInner b list

inner_left : (b : ℕ) (xs ys : List PlanInstance) → HasInner b xs → HasInner b (xs ++ ys)
inner_left b [] ys has = absurd has
inner_left b (x ∷ xs) ys (inl e) = inl e
inner_left b (x ∷ xs) ys (inr has) = inr (inner_left b xs ys has)

inner_right : (b : ℕ) (xs ys : List PlanInstance) → HasInner b ys → HasInner b (xs ++ ys)
inner_right b [] ys has = has
inner_right b (x ∷ xs) ys has = inr (inner_right b xs ys has)

inner_counts : (b : ℕ) (plans : List ModulePlan) (list : List PlanInstance) → HasInner b list → HasMaster b (map (instance_counts plans) list)
inner_counts b plans [] has = absurd has
inner_counts b plans (i ∷ list) (inl e) = inl e
inner_counts b plans (i ∷ list) (inr has) = inr (inner_counts b plans list has)

instances_append : (xs ys : List PlanStep) → instance_list (xs ++ ys) ≡ instance_list xs ++ instance_list ys
instances_append [] ys = refl
instances_append (ElementStep e ∷ xs) ys = instances_append xs ys
instances_append (InstanceStep i ∷ xs) ys = ap (λ is. i ∷ is) (instances_append xs ys)

-- ---- instances among parts

abbrev IsPartOf : ℕ → ModulePart → Type 0
IsPartOf b (Names names) = ⊥
IsPartOf b (Gate g) = ⊥
IsPartOf b (Pair p) = ⊥
IsPartOf b (Instance i) = i.master ≡ b

abbrev HasPart : ℕ → List ModulePart → Type 0
HasPart b [] = ⊥
HasPart b (part ∷ parts) = IsPartOf b part ⊎ HasPart b parts

part_left : (b : ℕ) (xs ys : List ModulePart) → HasPart b xs → HasPart b (xs ++ ys)
part_left b [] ys has = absurd has
part_left b (x ∷ xs) ys (inl e) = inl e
part_left b (x ∷ xs) ys (inr has) = inr (part_left b xs ys has)

part_right : (b : ℕ) (xs ys : List ModulePart) → HasPart b ys → HasPart b (xs ++ ys)
part_right b [] ys has = has
part_right b (x ∷ xs) ys has = inr (part_right b xs ys has)

module _ (given : Given) (b : ℕ) where
  own_inner : (number : ℕ) (part : ModulePart) → IsPartOf b part → HasInner b (instance_list (own_steps given number part))
  own_inner number (Names names) is = absurd is
  own_inner number (Gate g) is = absurd is
  own_inner number (Pair p) is = absurd is
  own_inner number (Instance i) is = inl is

  part_inner : (number : ℕ) (part : ModulePart) → IsPartOf b part → HasInner b (instance_list (part_steps given (number, part)))
  part_inner number part is =
      let first = element_steps (constants given.nets (number + own_count part) (runs_in part)) in
      subst (HasInner b) (sym (instances_append first (own_steps given number part)))
      (inner_right b (instance_list first) (instance_list (own_steps given number part)) (own_inner number part is))

  parts_inner : (number : ℕ) (parts : List ModulePart) → HasPart b parts → HasInner b (instance_list (flat_map (part_steps given) (numbered_from number parts)))
  parts_inner number [] has = absurd has
  parts_inner number (part ∷ parts) (inl is) =
      let first = part_steps given (number, part) in
      let rest = flat_map (part_steps given) (numbered_from (number + unnamed_count part) parts) in
      subst (HasInner b) (sym (instances_append first rest)) (inner_left b (instance_list first) (instance_list rest) (part_inner number part is))
  parts_inner number (part ∷ parts) (inr has) =
      let first = part_steps given (number, part) in
      let rest = flat_map (part_steps given) (numbered_from (number + unnamed_count part) parts) in
      subst (HasInner b) (sym (instances_append first rest))
      (inner_right b (instance_list first) (instance_list rest) (parts_inner (number + unnamed_count part) parts has))

-- ---- instances among items

module _ (scope : Scope) (tables : List (List Port)) (of : List ℕ → Master) (b : ℕ) where
  instances_part : (index m : ℕ) (ports : MasterPorts) (list : List Inst) → m ≡ b → 0 < length list → HasPart b (map (module_instance index m ports) list)
  instances_part index m ports [] e some = absurd (omega arith)
  instances_part index m ports (i ∷ list) e some = inl e

  master_part : (index : ℕ) (o : Master) (i : TreeInstance) → is_module b o ≡ true → 0 < length i.instances → HasPart b (instance_parts index tables o i)
  master_part index (master.Module m) i is some = instances_part index m (ports_of tables [] (master.Module m)) i.instances (sym (eqb-true b m is)) some
  master_part index (master.Udp u) i is some = absurd (let no : false ≡ true = is in cc)
  master_part index master.Unknown i is some = absurd (let no : false ≡ true = is in cc)

  abbrev IsFilled : TreeInstance → Type 0
  IsFilled i = 0 < length i.instances

  items_part : (index : ℕ) (items : List Item) → refers_to b (references_in of items) ≡ true → AllByRecursion IsFilled (instances_in items)
      → HasPart b (flat_map (parts_of_item scope tables of) (enumerate_from index items))
  items_part index [] is some = absurd (let no : false ≡ true = is in cc)
  items_part index (item.Instances i ∷ items) is some =
      by_test (λ h. items_part (index + 1) items h some.1) (is_module b (of i.name.text)) refl is
    where
      rest : List ModulePart
      rest = flat_map (parts_of_item scope tables of) (enumerate_from (index + 1) items)

      by_test : (refers_to b (references_in of items) ≡ true → HasPart b rest) → (t : Bool) → is_module b (of i.name.text) ≡ t → (t || refers_to b (references_in of items)) ≡ true → HasPart b (instance_parts index tables (of i.name.text) i ++ rest)
      by_test later true e h = part_left b (instance_parts index tables (of i.name.text) i) rest (master_part index (of i.name.text) i e some.0)
      by_test later false e h = part_right b (instance_parts index tables (of i.name.text) i) rest (later h)
  items_part index (item.Ports d ∷ items) is some = part_right b (parts_of_item scope tables of (index, item.Ports d)) _ (items_part (index + 1) items is some)
  items_part index (item.Nets d ∷ items) is some = part_right b (parts_of_item scope tables of (index, item.Nets d)) _ (items_part (index + 1) items is some)
  items_part index (item.Trireg d ∷ items) is some = part_right b (parts_of_item scope tables of (index, item.Trireg d)) _ (items_part (index + 1) items is some)
  items_part index (item.Assign a ∷ items) is some = part_right b (parts_of_item scope tables of (index, item.Assign a)) _ (items_part (index + 1) items is some)
  items_part index (item.Gates g ∷ items) is some = part_right b (parts_of_item scope tables of (index, item.Gates g)) _ (items_part (index + 1) items is some)
  items_part index (item.Cell c ∷ items) is some = part_right b (parts_of_item scope tables of (index, item.Cell c)) _ (items_part (index + 1) items is some)
  items_part index (item.Specify s ∷ items) is some = part_right b (parts_of_item scope tables of (index, item.Specify s)) _ (items_part (index + 1) items is some)

-- ---- modules

module _ (file : File) (top : ℕ) where
  abbrev AllFilled : Module → Type 0
  AllFilled m = AllByRecursion (λ (i : TreeInstance). 0 < length i.instances) (instances_in m.items)

  module_inner : (m : Module) (b : ℕ) → AllFilled m → refers_to b (references_in (master_in file) m.items) ≡ true → HasInner b (instance_list (plan_in file top m).steps)
  module_inner m b some is =
      let scope = scope_under file.directives m in
      let given : Given = record { scope = scope; nets = module_nets scope (parts_in file m); items = m.items; meanings = meanings_in file top } in
      parts_inner given b 0 (parts_in file m) (inr (items_part scope (port_tables file.directives file.modules) (master_in file) b 0 m.items is some))

  plans_inner : (flags : List Bool) (modules : List Module) (a b : ℕ) → AllByRecursion AllFilled modules → slice_index_or flags a false ≡ true
      → refers_to b (slice_index_or (map (λ m. references_in (master_in file) m.items) modules) a []) ≡ true
      → HasInner b (instance_list (slice_index_or (map (plan_if file top) (zip flags modules)) a no_plan).steps)
  plans_inner [] modules a b some there is = absurd (let no : false ≡ true = there in cc)
  plans_inner (flag ∷ flags) [] a b some there is = absurd (let no : false ≡ true = is in cc)
  plans_inner (true ∷ flags) (m ∷ modules) zero b some there is = module_inner m b some.0 is
  plans_inner (false ∷ flags) (m ∷ modules) zero b some there is = absurd (let no : false ≡ true = there in cc)
  plans_inner (flag ∷ flags) (m ∷ modules) (suc a) b some there is = plans_inner flags modules a b some.1 there is

  -- what a reached module instantiates is in its plan
  pub instantiated-counts : (a b : ℕ) → AllByRecursion AllFilled file.modules → slice_index_or (modules_reached file top) a false ≡ true → instantiates (graph_in file).references a b ≡ true
      → HasMaster b (instances_at (all_instance_counts (plans_in file top)) a)
  instantiated-counts a b some there is =
      let h : Hierarchy = record { plans = plans_in file top; delays = λ m i. no_delays } in
      subst (HasMaster b) (sym (instances_are h a))
      (inner_counts b (plans_in file top) (instance_list (slice_index_or (plans_in file top) a no_plan).steps) (plans_inner (modules_reached file top) file.modules a b some there is))
