-- The names that a flattening adds are those of a tree.
use Rattle.std.proofs.Common.{◌≡◌, ℕ, zero, suc, ◌+◌, Bool, List, [], ◌∷◌, ◌++◌, length, map, refl, sym, ap, ◌∙◌, append_assoc}
use Rattle.flat_names.specs.Spelling.{Own, Written, FlatName, spelling}
use Rattle.netlist_plan.specs.declared.plan.PlanElement.{PlanElement}
use Rattle.netlist_plan.specs.declared.plan.PlanStep.{PlanStep}
use Rattle.netlist_plan.specs.declared.plan.PlanStep.TheVariants.{Element as ElementStep, Instance as InstanceStep}
use Rattle.netlist_plan.specs.declared.plan.ModulePlan.{ModulePlan}
use Rattle.netlist_plan.specs.Additions.{Additions, joined, nothing}
use Rattle.netlist_plan.specs.Flattening.{Hierarchy, Inner, Place, additions, bound_numbers, element_additions, nets_additions, place_of, plan_at, step_additions, steps_additions}
use Rattle.flattening_laws.proofs.NameTrees.{InnerNames, inside_of, name_tree, spelled, step_tree, steps_tree}

pub map_append : {X Y : Type 0} (f : X → Y) (xs ys : List X) → map f (xs ++ ys) ≡ map f xs ++ map f ys
map_append f [] ys = refl
map_append f (x ∷ xs) ys = ap (λ zs. f x ∷ zs) (map_append f xs ys)

spelled_inside : (path : List Own) (part : Own) (n : FlatName) → spelled path (inside_of part n) ≡ spelled (path ++ part ∷ []) n
spelled_inside path part n = ap (λ (p : List Own). spelling (record { path = p; own = n.own; index = n.index })) (sym (append_assoc path (part ∷ []) n.path))

pub spelled_insides : (path : List Own) (part : Own) (ns : List FlatName) → map (spelled path) (map (inside_of part) ns) ≡ map (spelled (path ++ part ∷ [])) ns
spelled_insides path part [] = refl
spelled_insides path part (n ∷ ns) =
    ap (λ (b : List ℕ). b ∷ map (spelled path) (map (inside_of part) ns)) (spelled_inside path part n)
    ∙ ap (λ (bs : List (List ℕ)). spelled (path ++ part ∷ []) n ∷ bs) (spelled_insides path part ns)

-- a list of names in what is added: that of a module's nets and that of an element are those that a tree has
pub record IsListOf (mine : List Bool → ModulePlan → List FlatName) (of : PlanElement → List FlatName) (h : Hierarchy) (pick : Additions → List (List ℕ)) : Type 0 where
  pub none : pick nothing ≡ []
  pub both : (a b : Additions) → pick (joined a b) ≡ pick a ++ pick b
  pub nets : (at : Place) (plan : ModulePlan) → pick (nets_additions h at plan) ≡ map (spelled at.path) (mine at.bound plan)
  pub element : (at : Place) (e : PlanElement) → pick (element_additions h at e) ≡ map (spelled at.path) (of e)

module _ (mine : List Bool → ModulePlan → List FlatName) (of : PlanElement → List FlatName) (h : Hierarchy) (pick : Additions → List (List ℕ)) (is : IsListOf mine of h pick) where
  abbrev Agrees : Inner → InnerNames → Type 0
  Agrees inner names = (master : ℕ) (path : List Own) (outside : List (ℕ × ℕ)) (next : ℕ) → pick (inner master path outside next) ≡ map (spelled path) (names master path outside next)

  step_agrees : (inner : Inner) (names : InnerNames) (at : Place) (next : ℕ) (s : PlanStep) → Agrees inner names
      → pick (step_additions inner h at next s) ≡ map (spelled at.path) (step_tree mine of h names at next s)
  step_agrees inner names at next (ElementStep e) a = is.element at e
  step_agrees inner names at next (InstanceStep i) a =
      a i.master (at.path ++ Written i.name ∷ []) (bound_numbers at.numbers (plan_at h i.master).ports i.connections) next
      ∙ sym (spelled_insides at.path (Written i.name) (names i.master (at.path ++ Written i.name ∷ []) (bound_numbers at.numbers (plan_at h i.master).ports i.connections) next))

  steps_agree : (inner : Inner) (names : InnerNames) (at : Place) (next : ℕ) (ss : List PlanStep) → Agrees inner names
      → pick (steps_additions inner h at next ss) ≡ map (spelled at.path) (steps_tree mine of h names inner at next ss)
  steps_agree inner names at next [] a = is.none
  steps_agree inner names at next (s ∷ ss) a =
      let first = step_additions inner h at next s in
      let then = next + length first.net_names in
      let rest = steps_additions inner h at then ss in
      is.both first rest
      ∙ ap (λ (xs : List (List ℕ)). xs ++ pick rest) (step_agrees inner names at next s a)
      ∙ ap (λ (ys : List (List ℕ)). map (spelled at.path) (step_tree mine of h names at next s) ++ ys) (steps_agree inner names at then ss a)
      ∙ sym (map_append (spelled at.path) (step_tree mine of h names at next s) (steps_tree mine of h names inner at then ss))

  pub tree_agrees : (levels : ℕ) → Agrees (additions h levels) (name_tree mine of h levels)
  unfolding name_tree additions
  tree_agrees zero master path outside next = is.none
  tree_agrees (suc levels) master path outside next =
      let at = place_of h master path outside next in
      let plan = plan_at h master in
      let own = nets_additions h at plan in
      let then = next + length own.net_names in
      let rest = steps_additions (additions h levels) h at then plan.steps in
      is.both own rest
      ∙ ap (λ (xs : List (List ℕ)). xs ++ pick rest) (is.nets at plan)
      ∙ ap (λ (ys : List (List ℕ)). map (spelled path) (mine at.bound plan) ++ ys) (steps_agree (additions h levels) (name_tree mine of h levels) at then plan.steps (tree_agrees levels))
      ∙ sym (map_append (spelled path) (mine at.bound plan) (steps_tree mine of h (name_tree mine of h levels) (additions h levels) at then plan.steps))
