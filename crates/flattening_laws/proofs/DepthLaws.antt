-- Writing out more levels than a hierarchy has adds nothing.
use Rattle.std.proofs.Common.{◌≡◌, ℕ, zero, suc, ◌+◌, ◌<◌, ◌≤◌, List, [], ◌∷◌, ◌++◌, length, map, refl, ap, subst, ◌∙◌, arith}
use Rattle.std.specs.Prelude.{max}
use Rattle.std.specs.List.{AllByRecursion, fold}
use Rattle.flat_names.specs.Spelling.{Own, Written}
use Rattle.hierarchy_counts.specs.declared.counts.InstanceCounts.{InstanceCounts}
use Rattle.hierarchy_counts.specs.Hierarchy.{instances_at, levels_inside}
use Rattle.netlist_plan.specs.declared.plan.PlanInstance.{PlanInstance}
use Rattle.netlist_plan.specs.declared.plan.PlanStep.{PlanStep}
use Rattle.netlist_plan.specs.declared.plan.PlanStep.TheVariants.{Element as ElementStep, Instance as InstanceStep}
use Rattle.netlist_plan.specs.Additions.{Additions, joined}
use Rattle.netlist_plan.specs.Flattening.{Hierarchy, Inner, Place, additions, bound_numbers, nets_additions, place_of, plan_at, step_additions, steps_additions}
use Rattle.flattening_laws.specs.Counts.{all_instance_counts, instance_counts, instance_list}
use Rattle.flattening_laws.proofs.Apart.{each_of_map, each_weaker}
use Rattle.flattening_laws.proofs.CountLaws.{instances_are}

most : (xs : List ℕ) (a : ℕ) → (a ≤ fold max a xs) × AllByRecursion (λ (x : ℕ). x ≤ fold max a xs) xs
most [] a = (omega arith, tt)
most (x ∷ xs) a = let rest = most xs (max a x) in (omega (arith, rest.0), (omega (arith, rest.0), rest.1))

module _ (h : Hierarchy) where
  -- the instances in a module have fewer levels than it
  fewer : (levels master : ℕ) → levels_inside (all_instance_counts h.plans) (suc levels) master < suc levels
      → AllByRecursion (λ (i : PlanInstance). levels_inside (all_instance_counts h.plans) levels i.master < levels) (instance_list (plan_at h master).steps)
  unfolding levels_inside
  fewer levels master few =
      let f = λ (i : InstanceCounts). 1 + levels_inside (all_instance_counts h.plans) levels i.master in
      let list = instance_list (plan_at h master).steps in
      let counts = instances_at (all_instance_counts h.plans) master in
      let greatest = fold max 0 (map f counts) in
      let each : AllByRecursion (λ (i : InstanceCounts). f i ≤ greatest) counts = each_of_map (λ (x : ℕ). x ≤ greatest) f counts (most (map f counts) 0).1 in
      each_weaker (λ (i : PlanInstance). f (instance_counts h.plans i) ≤ greatest) (λ (i : PlanInstance). levels_inside (all_instance_counts h.plans) levels i.master < levels) list
      (λ i le. omega arith)
      (each_of_map (λ (i : InstanceCounts). f i ≤ greatest) (instance_counts h.plans) list (subst (λ (is : List InstanceCounts). AllByRecursion (λ (i : InstanceCounts). f i ≤ greatest) is) (instances_are h master) each))

  -- two ways to write out an instance come to the same
  abbrev SameFor : Inner → Inner → PlanInstance → Type 0
  SameFor inner other i = (path : List Own) (outside : List (ℕ × ℕ)) (next : ℕ) → inner i.master path outside next ≡ other i.master path outside next

  steps_same : (inner other : Inner) (at : Place) (next : ℕ) (ss : List PlanStep) → AllByRecursion (SameFor inner other) (instance_list ss) → steps_additions inner h at next ss ≡ steps_additions other h at next ss
  steps_same inner other at next [] same = refl
  steps_same inner other at next (ElementStep e ∷ ss) same =
      let first = step_additions inner h at next (ElementStep e) in
      ap (joined first) (steps_same inner other at (next + length first.net_names) ss same)
  steps_same inner other at next (InstanceStep i ∷ ss) same =
      let outside = bound_numbers at.numbers (plan_at h i.master).ports i.connections in
      let path = at.path ++ Written i.name ∷ [] in
      let first = inner i.master path outside next in
      let then = other i.master path outside next in
      ap (joined first) (steps_same inner other at (next + length first.net_names) ss same.1)
      ∙ ap (λ (a : Additions). joined a (steps_additions other h at (next + length a.net_names) ss)) (same.0 path outside next)

  pub additions-whole : (levels more master : ℕ) (path : List Own) (outside : List (ℕ × ℕ)) (next : ℕ) → levels_inside (all_instance_counts h.plans) levels master < levels
      → additions h (levels + more) master path outside next ≡ additions h levels master path outside next
  unfolding additions
  additions-whole zero more master path outside next few = absurd (omega arith)
  additions-whole (suc levels) more master path outside next few =
      let at = place_of h master path outside next in
      let plan = plan_at h master in
      let own = nets_additions h at plan in
      let then = next + length own.net_names in
      let one_more : suc levels + more ≡ suc (levels + more) = omega arith in
      ap (λ n. additions h n master path outside next) one_more
      ∙ ap (joined own) (steps_same (additions h (levels + more)) (additions h levels) at then plan.steps
      (each_weaker (λ (i : PlanInstance). levels_inside (all_instance_counts h.plans) levels i.master < levels) (SameFor (additions h (levels + more)) (additions h levels)) (instance_list plan.steps)
      (λ i less path outside next. additions-whole levels more i.master path outside next less) (fewer levels master few)))
