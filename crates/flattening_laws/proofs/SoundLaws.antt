-- The flattening of sound plans is sound.
use Rattle.std.proofs.Common.{◌≡◌, ℕ, zero, suc, ◌+◌, ◌<◌, Bool, List, [], ◌∷◌, ◌++◌, length, map, refl, sym, ap, subst, arith}
use Rattle.std.specs.List.{All, AllByRecursion}
use Rattle.udp_table.specs.Primitive.{Primitive}
use Rattle.flat_net.specs.Elements.{IsElement}
use Rattle.flat_net.specs.Lists.{AreDistinct}
use Rattle.flat_net.specs.Soundness.{IsAscii, IsFind}
use Rattle.flat_names.specs.Spelling.{Own, Written, FlatName, spelling, IsFlatName}
use Rattle.flat_names.proofs.SpellingLaws.{spelling-ascii, spelling-distinct}
use Rattle.netlist_plan.specs.declared.plan.ModulePlan.{ModulePlan}
use Rattle.netlist_plan.specs.declared.plan.PlanStep.{PlanStep}
use Rattle.netlist_plan.specs.declared.plan.PlanStep.TheVariants.{Element as ElementStep, Instance as InstanceStep}
use Rattle.netlist_plan.specs.Additions.{Additions, joined}
use Rattle.netlist_plan.specs.Flattening.{Hierarchy, Inner, Place, additions, bit_count, bound_numbers, flattening, nets_additions, no_plan, place_of, plan_at, step_additions, steps_additions}
use Rattle.flattening_laws.specs.SoundPlans.{HasTerminals, IsPlanNet, IsPlanStep, IsSoundPlan}
use Rattle.flattening_laws.specs.SoundAdditions.{AreSoundAdditions, IsClaim}
use Rattle.flattening_laws.proofs.Apart.{AreApart, All_from_each, apart_distinct, apart_map_of, distinct_apart, each_from_All, each_map, each_weaker}
use Rattle.flattening_laws.proofs.NameTrees.{IsPlanApart, IsPlanNamed, StepNamed, name_tree, spelled, tree_apart, tree_named}
use Rattle.flattening_laws.proofs.TreeNames.{tree_agrees}
use Rattle.flattening_laws.proofs.StepNames.{element_names, elements_apart, instances_apart, no_names, own_from_instances}
use Rattle.flattening_laws.proofs.Trees.{element_list, element_named, find_list, find_records, find_records_apart, find_records_named, find_records_own, net_list, net_records, net_records_apart, net_records_named, net_records_own, no_records}
use Rattle.flattening_laws.proofs.Numbers.{length_append, length_map}
use Rattle.flattening_laws.proofs.Within.{additions_within, plan_is}

-- ---- no plan is sound

pub none_sound : (udps : List Primitive) → IsSoundPlan udps no_plan
none_sound udps = record {
  row = tt;
  nets = All_from_each IsPlanNet [] tt;
  net_names = distinct_apart [] tt;
  ports = All_from_each (λ bit. bit < 0) [] tt;
  apart = distinct_apart [] tt;
  steps = All_from_each (IsPlanStep udps 0) [] tt;
  step_names = distinct_apart [] tt;
  halves = λ i j own on_one e f. cc;
  terminals = All_from_each (λ terminal. terminal.bit < 0) [] tt;
  ends = All_from_each (HasTerminals []) [] tt;
}

-- ---- names

names_sound : (tree : List FlatName) (names : List (List ℕ)) → names ≡ map (spelled []) tree → AllByRecursion IsFlatName tree → AreApart tree → All IsAscii names × AreDistinct names
names_sound tree names same named apart =
    let each : AllByRecursion IsAscii (map spelling tree) = each_map IsAscii spelling tree (each_weaker IsFlatName (λ n. IsAscii (spelling n)) tree (λ n is. spelling-ascii n is) named) in
    let differ : AreApart (map spelling tree) = apart_map_of IsFlatName spelling tree (λ a b is at e. spelling-distinct a b is at e) named apart in (
      subst (λ (ns : List (List ℕ)). All IsAscii ns) (sym same) (All_from_each IsAscii (map spelling tree) each),
      subst (λ (ns : List (List ℕ)). AreDistinct ns) (sym same) (distinct_apart (map spelling tree) differ),
    )

-- a tree in which the nets of a module have the names and elements have none
module _ (mine : List Bool → ModulePlan → List FlatName)
    (own : (bound : List Bool) (plan : ModulePlan) → AllByRecursion (λ x. x.path ≡ []) (mine bound plan))
    (apart : (bound : List Bool) (plan : ModulePlan) → AreApart (map (λ net. net.name) plan.nets) → AreApart (mine bound plan))
    (named : (bound : List Bool) (plan : ModulePlan) → AllByRecursion IsPlanNet plan.nets → AllByRecursion IsFlatName (mine bound plan))
    (udps : List Primitive) (h : Hierarchy) (sound : (master : ℕ) → IsSoundPlan udps (plan_at h master)) where
  own_step_texts : (bits : ℕ) (s : PlanStep) → IsPlanStep udps bits s → StepNamed mine no_names h s
  own_step_texts bits (ElementStep e) is = tt
  own_step_texts bits (InstanceStep i) is = is.name

  own_plans_apart : (master : ℕ) → IsPlanApart mine no_names h (plan_at h master)
  own_plans_apart master =
      let plan = plan_at h master in
      let is = sound master in
      record {
        mine_apart = λ bound. apart bound plan (apart_distinct (map (λ net. net.name) plan.nets) is.net_names);
        mine_from = λ bound. own_from_instances mine h (mine bound plan) plan.steps (own bound plan);
        steps = instances_apart mine h plan.steps is.step_names is.halves;
      }

  own_plans_named : (master : ℕ) → IsPlanNamed mine no_names h (plan_at h master)
  own_plans_named master =
      let plan = plan_at h master in
      let is = sound master in
      record {
        mine_named = λ bound. named bound plan (each_from_All IsPlanNet plan.nets is.nets);
        steps = each_weaker (IsPlanStep udps (bit_count plan.nets)) (StepNamed mine no_names h) plan.steps (own_step_texts (bit_count plan.nets)) (each_from_All (IsPlanStep udps (bit_count plan.nets)) plan.steps is.steps);
      }

module _ (udps : List Primitive) (h : Hierarchy) (sound : (master : ℕ) → IsSoundPlan udps (plan_at h master)) where
  element_step_texts : (bits : ℕ) (s : PlanStep) → IsPlanStep udps bits s → StepNamed no_records element_names h s
  element_step_texts bits (ElementStep e) is = (element_named e.name is.name, tt)
  element_step_texts bits (InstanceStep i) is = is.name

  element_plans_apart : (master : ℕ) → IsPlanApart no_records element_names h (plan_at h master)
  element_plans_apart master =
      let plan = plan_at h master in
      let is = sound master in
      record {
        mine_apart = λ bound. tt;
        mine_from = λ bound. tt;
        steps = elements_apart no_records h plan.steps is.step_names is.halves;
      }

  element_plans_named : (master : ℕ) → IsPlanNamed no_records element_names h (plan_at h master)
  element_plans_named master =
      let plan = plan_at h master in
      let is = sound master in
      record {
        mine_named = λ bound. tt;
        steps = each_weaker (IsPlanStep udps (bit_count plan.nets)) (StepNamed no_records element_names h) plan.steps (element_step_texts (bit_count plan.nets)) (each_from_All (IsPlanStep udps (bit_count plan.nets)) plan.steps is.steps);
      }

  -- ---- each element has a name, and is resistive or not

  abbrev AreEach : Additions → Type 0
  AreEach a = (length a.element_names ≡ length a.elements) × (length a.resistive ≡ length a.elements)

  abbrev KeepsEach : Inner → Type 0
  KeepsEach inner = (master : ℕ) (path : List Own) (outside : List (ℕ × ℕ)) (next : ℕ) → AreEach (inner master path outside next)

  joined_each : (a b : Additions) → AreEach a → AreEach b → AreEach (joined a b)
  joined_each a b e f =
      let names = length_append a.element_names b.element_names in
      let resistive = length_append a.resistive b.resistive in
      let elements = length_append a.elements b.elements in
      (omega (arith, e.0, f.0), omega (arith, e.1, f.1))

  steps_each : (inner : Inner) (at : Place) (next : ℕ) (ss : List PlanStep) → KeepsEach inner → AreEach (steps_additions inner h at next ss)
  steps_each inner at next [] each = (refl, refl)
  steps_each inner at next (ElementStep e ∷ ss) each =
      let rest = steps_each inner at (next + 0) ss each in
      (ap suc rest.0, ap suc rest.1)
  steps_each inner at next (InstanceStep i ∷ ss) each =
      let first = step_additions inner h at next (InstanceStep i) in
      let then = next + length first.net_names in
      joined_each first (steps_additions inner h at then ss)
      (each i.master (at.path ++ Written i.name ∷ []) (bound_numbers at.numbers (plan_at h i.master).ports i.connections) next)
      (steps_each inner at then ss each)

  additions_each : (levels : ℕ) → KeepsEach (additions h levels)
  unfolding additions
  additions_each zero master path outside next = (refl, refl)
  additions_each (suc levels) master path outside next =
      let at = place_of h master path outside next in
      let own = nets_additions h at (plan_at h master) in
      steps_each (additions h levels) at (next + length own.net_names) (plan_at h master).steps (additions_each levels)

-- ---- the law

pub additions-sound : (udps : List Primitive) (h : Hierarchy) → All (IsSoundPlan udps) h.plans → (levels top : ℕ) → AreSoundAdditions udps (additions h levels top [] [] 0)
additions-sound udps h plans levels top =
    let sound : (master : ℕ) → IsSoundPlan udps (plan_at h master)
    = λ master. plan_is (IsSoundPlan udps) h.plans master (none_sound udps) (each_from_All (IsSoundPlan udps) h.plans plans) in
    let a = additions h levels top [] [] 0 in
    let n = length a.net_names in
    let within = additions_within udps h sound levels top [] [] 0 tt in
    let count : 0 + n ≡ n = omega arith in
    let nets = names_sound (name_tree net_records no_names h levels top [] [] 0) a.net_names
    (tree_agrees net_records no_names h (λ x. x.net_names) (net_list h) levels top [] [] 0)
    (tree_named net_records no_names h (own_plans_named net_records net_records_own net_records_apart net_records_named udps h sound) levels top [] [] 0)
    (tree_apart net_records no_names h (own_plans_apart net_records net_records_own net_records_apart net_records_named udps h sound) levels top [] [] 0) in
    let elements = names_sound (name_tree no_records element_names h levels top [] [] 0) a.element_names
    (tree_agrees no_records element_names h (λ x. x.element_names) (element_list h) levels top [] [] 0)
    (tree_named no_records element_names h (element_plans_named udps h sound) levels top [] [] 0)
    (tree_apart no_records element_names h (element_plans_apart udps h sound) levels top [] [] 0) in
    let finds = names_sound (name_tree find_records no_names h levels top [] [] 0) (map (λ found. found.name) a.finds)
    (tree_agrees find_records no_names h (λ x. map (λ found. found.name) x.finds) (find_list h) levels top [] [] 0)
    (tree_named find_records no_names h (own_plans_named find_records find_records_own find_records_apart find_records_named udps h sound) levels top [] [] 0)
    (tree_apart find_records no_names h (own_plans_apart find_records find_records_own find_records_apart find_records_named udps h sound) levels top [] [] 0) in
    let each = additions_each udps h sound levels top [] [] 0 in
    record {
      net_names = record { all = refl; ascii = nets.0; distinct = nets.1 };
      claims = All_from_each (IsClaim n) a.claims (subst (λ k. AllByRecursion (IsClaim k) a.claims) count within.claims);
      elements = All_from_each (IsElement n udps) a.elements (subst (λ k. AllByRecursion (IsElement k udps) a.elements) count within.elements);
      element_names = record { all = each.0; ascii = elements.0; distinct = elements.1 };
      resistive = each.1;
      finds = All_from_each (IsFind n) a.finds (subst (λ k. AllByRecursion (IsFind k) a.finds) count within.finds);
      find_names = record { all = length_map (λ found. found.name) a.finds; ascii = finds.0; distinct = finds.1 };
    }

-- a flattening of sound plans is sound
pub flattening-sound : (udps : List Primitive) (h : Hierarchy) → All (IsSoundPlan udps) h.plans → (top : ℕ) → AreSoundAdditions udps (flattening h top)
flattening-sound udps h plans top = additions-sound udps h plans 64 top
