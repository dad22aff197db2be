-- The flat names of things in a hierarchy as a tree, each without the path of the instance in which the tree stands. A
-- tree is given by the names that a module has for its nets, and by those that it has for an element.
use Rattle.std.proofs.Common.{◌≡◌, ℕ, zero, suc, ◌+◌, Bool, List, [], ◌∷◌, ◌++◌, length, map, ap}
use Rattle.std.specs.List.{AllByRecursion}
use Rattle.flat_names.specs.Spelling.{Own, Written, FlatName, spelling, IsText, IsOwn, IsFlatName}
use Rattle.netlist_plan.specs.declared.plan.PlanElement.{PlanElement}
use Rattle.netlist_plan.specs.declared.plan.PlanStep.{PlanStep}
use Rattle.netlist_plan.specs.declared.plan.PlanStep.TheVariants.{Element as ElementStep, Instance as InstanceStep}
use Rattle.netlist_plan.specs.declared.plan.ModulePlan.{ModulePlan}
use Rattle.netlist_plan.specs.Flattening.{Hierarchy, Inner, Place, additions, bound_numbers, nets_additions, place_of, plan_at, step_additions}
use Rattle.flattening_laws.proofs.Apart.{AreApart, Differ, All_from_each, apart_append, apart_map, each_always, each_append, each_from_All, each_map, each_weaker}

-- a name in an instance
abbrev pub inside_of : Own → FlatName → FlatName
inside_of part n = record { path = part ∷ n.path; own = n.own; index = n.index }

-- a name behind a path, as it is written
abbrev pub spelled : List Own → FlatName → List ℕ
spelled path n = spelling (record { path = path ++ n.path; own = n.own; index = n.index })

-- the names that an instance has
abbrev pub InnerNames : Type 0
InnerNames = ℕ → List Own → List (ℕ × ℕ) → ℕ → List FlatName

module _ (mine : List Bool → ModulePlan → List FlatName) (of : PlanElement → List FlatName) (h : Hierarchy) where
  abbrev pub step_tree : InnerNames → Place → ℕ → PlanStep → List FlatName
  step_tree inner at next (ElementStep e) = of e
  step_tree inner at next (InstanceStep i) =
      map (inside_of (Written i.name))
      (inner i.master (at.path ++ Written i.name ∷ []) (bound_numbers at.numbers (plan_at h i.master).ports i.connections) next)

  abbrev pub steps_tree : InnerNames → Inner → Place → ℕ → List PlanStep → List FlatName
  steps_tree inner count at next [] = []
  steps_tree inner count at next (s ∷ ss) =
      step_tree inner at next s ++ steps_tree inner count at (next + length (step_additions count h at next s).net_names) ss

  unfoldable pub name_tree : ℕ → InnerNames
  name_tree zero master path outside next = []
  name_tree (suc levels) master path outside next =
      let at = place_of h master path outside next in
      let plan = plan_at h master in
      mine at.bound plan
      ++ steps_tree (name_tree levels) (additions h levels) at (next + length (nets_additions h at plan).net_names) plan.steps

  -- ---- what holds of all names of a step, whatever the instances have

  abbrev pub StepHas : (FlatName → Type 0) → PlanStep → Type 0
  StepHas P (ElementStep e) = AllByRecursion P (of e)
  StepHas P (InstanceStep i) = (n : FlatName) → P (inside_of (Written i.name) n)

  each_of_step : (P : FlatName → Type 0) (inner : InnerNames) (at : Place) (next : ℕ) (s : PlanStep) → StepHas P s → AllByRecursion P (step_tree inner at next s)
  each_of_step P inner at next (ElementStep e) has = has
  each_of_step P inner at next (InstanceStep i) has =
      each_map P (inside_of (Written i.name)) (inner i.master (at.path ++ Written i.name ∷ []) (bound_numbers at.numbers (plan_at h i.master).ports i.connections) next)
      (each_always (λ n. P (inside_of (Written i.name) n)) _ has)

  each_of_steps : (P : FlatName → Type 0) (inner : InnerNames) (count : Inner) (at : Place) (next : ℕ) (ss : List PlanStep) → AllByRecursion (StepHas P) ss → AllByRecursion P (steps_tree inner count at next ss)
  each_of_steps P inner count at next [] has = tt
  each_of_steps P inner count at next (s ∷ ss) has =
      each_append P (step_tree inner at next s) (steps_tree inner count at (next + length (step_additions count h at next s).net_names) ss)
      (each_of_step P inner at next s has.0) (each_of_steps P inner count at (next + length (step_additions count h at next s).net_names) ss has.1)

  -- ---- names differ

  -- names of a step that differ, where those of each instance do
  abbrev pub StepApart : PlanStep → Type 0
  StepApart (ElementStep e) = AreApart (of e)
  StepApart (InstanceStep i) = Unit {0}

  -- names of a step differ from those of these others
  abbrev pub StepFrom : List PlanStep → PlanStep → Type 0
  StepFrom ss (ElementStep e) = AllByRecursion (λ x. AllByRecursion (StepHas (Differ x)) ss) (of e)
  StepFrom ss (InstanceStep i) = (n : FlatName) → AllByRecursion (StepHas (Differ (inside_of (Written i.name) n))) ss

  abbrev pub StepsApart : List PlanStep → Type 0
  StepsApart [] = Unit {0}
  StepsApart (s ∷ ss) = StepApart s × (StepFrom ss s × StepsApart ss)

  pub record IsPlanApart (plan : ModulePlan) : Type 0 where
    pub mine_apart : (bound : List Bool) → AreApart (mine bound plan)
    pub mine_from : (bound : List Bool) → AllByRecursion (λ x. AllByRecursion (StepHas (Differ x)) plan.steps) (mine bound plan)
    pub steps : StepsApart plan.steps

  -- the names of all instances differ
  abbrev pub AllApart : InnerNames → Type 0
  AllApart inner = (master : ℕ) (path : List Own) (outside : List (ℕ × ℕ)) (next : ℕ) → AreApart (inner master path outside next)

  inside_same : (part : Own) (m n : FlatName) → inside_of part m ≡ inside_of part n → m ≡ n
  inside_same part m n e = ap (λ (f : FlatName). record { path = tail_of f.path; own = f.own; index = f.index }) e
    where
      tail_of : List Own → List Own
      tail_of [] = []
      tail_of (o ∷ os) = os

  step_apart : (inner : InnerNames) (at : Place) (next : ℕ) (s : PlanStep) → AllApart inner → StepApart s → AreApart (step_tree inner at next s)
  step_apart inner at next (ElementStep e) a own = own
  step_apart inner at next (InstanceStep i) a own =
      apart_map (inside_of (Written i.name)) (inner i.master (at.path ++ Written i.name ∷ []) (bound_numbers at.numbers (plan_at h i.master).ports i.connections) next)
      (inside_same (Written i.name))
      (a i.master (at.path ++ Written i.name ∷ []) (bound_numbers at.numbers (plan_at h i.master).ports i.connections) next)

  step_from : (inner : InnerNames) (count : Inner) (at : Place) (next then : ℕ) (s : PlanStep) (ss : List PlanStep) → StepFrom ss s
      → AllByRecursion (λ x. AllByRecursion (Differ x) (steps_tree inner count at then ss)) (step_tree inner at next s)
  step_from inner count at next then (ElementStep e) ss from =
      each_weaker (λ x. AllByRecursion (StepHas (Differ x)) ss) (λ x. AllByRecursion (Differ x) (steps_tree inner count at then ss)) (of e)
      (λ x has. each_of_steps (Differ x) inner count at then ss has) from
  step_from inner count at next then (InstanceStep i) ss from =
      each_map (λ x. AllByRecursion (Differ x) (steps_tree inner count at then ss)) (inside_of (Written i.name))
      (inner i.master (at.path ++ Written i.name ∷ []) (bound_numbers at.numbers (plan_at h i.master).ports i.connections) next)
      (each_always (λ n. AllByRecursion (Differ (inside_of (Written i.name) n)) (steps_tree inner count at then ss)) _
      (λ n. each_of_steps (Differ (inside_of (Written i.name) n)) inner count at then ss (from n)))

  steps_apart : (inner : InnerNames) (count : Inner) (at : Place) (next : ℕ) (ss : List PlanStep) → AllApart inner → StepsApart ss → AreApart (steps_tree inner count at next ss)
  steps_apart inner count at next [] a apart = tt
  steps_apart inner count at next (s ∷ ss) a apart =
      let then = next + length (step_additions count h at next s).net_names in
      apart_append (step_tree inner at next s) (steps_tree inner count at then ss)
      (step_apart inner at next s a apart.0) (steps_apart inner count at then ss a apart.1.1) (step_from inner count at next then s ss apart.1.0)

  pub tree_apart : ((master : ℕ) → IsPlanApart (plan_at h master)) → (levels : ℕ) → AllApart (name_tree levels)
  unfolding name_tree
  tree_apart plans zero master path outside next = tt
  tree_apart plans (suc levels) master path outside next =
      let at = place_of h master path outside next in
      let plan = plan_at h master in
      let then = next + length (nets_additions h at plan).net_names in
      let is = plans master in
      apart_append (mine at.bound plan) (steps_tree (name_tree levels) (additions h levels) at then plan.steps)
      (is.mine_apart at.bound)
      (steps_apart (name_tree levels) (additions h levels) at then plan.steps (tree_apart plans levels) is.steps)
      (each_weaker (λ x. AllByRecursion (StepHas (Differ x)) plan.steps) (λ x. AllByRecursion (Differ x) (steps_tree (name_tree levels) (additions h levels) at then plan.steps)) (mine at.bound plan)
      (λ x has. each_of_steps (Differ x) (name_tree levels) (additions h levels) at then plan.steps has) (is.mine_from at.bound))

  -- ---- they are flat names

  abbrev pub StepNamed : PlanStep → Type 0
  StepNamed (ElementStep e) = AllByRecursion IsFlatName (of e)
  StepNamed (InstanceStep i) = IsText i.name

  pub record IsPlanNamed (plan : ModulePlan) : Type 0 where
    pub mine_named : (bound : List Bool) → AllByRecursion IsFlatName (mine bound plan)
    pub steps : AllByRecursion StepNamed plan.steps

  abbrev pub AllNamed : InnerNames → Type 0
  AllNamed inner = (master : ℕ) (path : List Own) (outside : List (ℕ × ℕ)) (next : ℕ) → AllByRecursion IsFlatName (inner master path outside next)

  inside_named : (name : List ℕ) (n : FlatName) → IsText name → IsFlatName n → IsFlatName (inside_of (Written name) n)
  inside_named name n text is = record {
    path = All_from_each IsOwn (Written name ∷ n.path) (text, each_from_All IsOwn n.path is.path);
    own = is.own;
    index = is.index;
  }

  step_named : (inner : InnerNames) (at : Place) (next : ℕ) (s : PlanStep) → AllNamed inner → StepNamed s → AllByRecursion IsFlatName (step_tree inner at next s)
  step_named inner at next (ElementStep e) a own = own
  step_named inner at next (InstanceStep i) a own =
      let names = inner i.master (at.path ++ Written i.name ∷ []) (bound_numbers at.numbers (plan_at h i.master).ports i.connections) next in
      each_map IsFlatName (inside_of (Written i.name)) names
      (each_weaker IsFlatName (λ n. IsFlatName (inside_of (Written i.name) n)) names (λ n is. inside_named i.name n own is)
      (a i.master (at.path ++ Written i.name ∷ []) (bound_numbers at.numbers (plan_at h i.master).ports i.connections) next))

  steps_named : (inner : InnerNames) (count : Inner) (at : Place) (next : ℕ) (ss : List PlanStep) → AllNamed inner → AllByRecursion StepNamed ss → AllByRecursion IsFlatName (steps_tree inner count at next ss)
  steps_named inner count at next [] a named = tt
  steps_named inner count at next (s ∷ ss) a named =
      let then = next + length (step_additions count h at next s).net_names in
      each_append IsFlatName (step_tree inner at next s) (steps_tree inner count at then ss)
      (step_named inner at next s a named.0) (steps_named inner count at then ss a named.1)

  pub tree_named : ((master : ℕ) → IsPlanNamed (plan_at h master)) → (levels : ℕ) → AllNamed (name_tree levels)
  unfolding name_tree
  tree_named plans zero master path outside next = tt
  tree_named plans (suc levels) master path outside next =
      let at = place_of h master path outside next in
      let plan = plan_at h master in
      let then = next + length (nets_additions h at plan).net_names in
      each_append IsFlatName (mine at.bound plan) (steps_tree (name_tree levels) (additions h levels) at then plan.steps)
      ((plans master).mine_named at.bound)
      (steps_named (name_tree levels) (additions h levels) at then plan.steps (tree_named plans levels) (plans master).steps)
