-- A flattening has as many nets and elements as the counts of the hierarchy say.
use Rattle.std.proofs.Common.{◌≡◌, ℕ, zero, suc, ◌+◌, ◌<◌, List, [], ◌∷◌, ◌++◌, length, map, refl, sym, ap, ◌∙◌, arith}
use Rattle.std.specs.Prelude.{slice_index_or, sum_by}
use Rattle.std.specs.List.{All, AllByRecursion, range_with_len}
use Rattle.std.proofs.lemmas.List.Sums.{sum_by-cons}
use Rattle.udp_table.specs.Primitive.{Primitive}
use Rattle.flat_names.specs.Spelling.{Own, Written}
use Rattle.hierarchy_counts.specs.declared.counts.ModuleCounts.{ModuleCounts}
use Rattle.hierarchy_counts.specs.Hierarchy.{Measure, Nets, Elements, inside, instance_own, instances_at, module_at, whole}
use Rattle.netlist_plan.specs.declared.plan.PlanInstance.{PlanInstance}
use Rattle.netlist_plan.specs.declared.plan.PlanStep.{PlanStep}
use Rattle.netlist_plan.specs.declared.plan.PlanStep.TheVariants.{Element as ElementStep, Instance as InstanceStep}
use Rattle.netlist_plan.specs.Flattening.{Hierarchy, Inner, Place, additions, bit_count, bound_numbers, flattening, nets_additions, no_plan, place_of, plan_at, step_additions, steps_additions}
use Rattle.flattening_laws.specs.SoundPlans.{IsPlanInstance, IsPlanStep, IsSoundPlan, ports_bits}
use Rattle.flattening_laws.specs.Counts.{all_instance_counts, all_module_counts, element_list, instance_counts, instance_list, module_counts}
use Rattle.flattening_laws.proofs.Apart.{apart_distinct, each_from_All}
use Rattle.flattening_laws.proofs.Numbers.{length_append, length_range, own_nets, unbound}
use Rattle.flattening_laws.proofs.Connected.{unbound_count}
use Rattle.flattening_laws.proofs.SoundLaws.{none_sound}
use Rattle.flattening_laws.proofs.Within.{plan_is}

-- ---- lists and sums

get_mapped : {X Y : Type 0} (f : X → Y) (xs : List X) (k : ℕ) (d : X) → slice_index_or (map f xs) k (f d) ≡ f (slice_index_or xs k d)
get_mapped f [] k d = refl
get_mapped f (x ∷ xs) zero d = refl
get_mapped f (x ∷ xs) (suc k) d = get_mapped f xs k d

sum_mapped : {X Y : Type 0} (f : Y → ℕ) (g : X → Y) (xs : List X) → sum_by f (map g xs) ≡ sum_by (λ x. f (g x)) xs
sum_mapped f g [] = refl
sum_mapped f g (x ∷ xs) =
    sum_by-cons f (g x) (map g xs) ∙ ap (λ n. f (g x) + n) (sum_mapped f g xs) ∙ sym (sum_by-cons (λ y. f (g y)) x xs)

module _ (h : Hierarchy) where
  module_is : (master : ℕ) → module_at (all_module_counts h.plans) master ≡ module_counts (plan_at h master)
  module_is master = get_mapped module_counts h.plans master no_plan

  pub instances_are : (master : ℕ) → instances_at (all_instance_counts h.plans) master ≡ map (instance_counts h.plans) (instance_list (plan_at h master).steps)
  instances_are master = get_mapped (λ p. map (instance_counts h.plans) (instance_list p.steps)) h.plans master no_plan

  -- what is inside a module is the sum over its instances
  inside_is : (measure : Measure) (levels master : ℕ) → inside measure (all_module_counts h.plans) (all_instance_counts h.plans) (suc levels) master
      ≡ sum_by (λ i. instance_own measure (all_module_counts h.plans) (instance_counts h.plans i) + inside measure (all_module_counts h.plans) (all_instance_counts h.plans) levels i.master) (instance_list (plan_at h master).steps)
  unfolding inside
  inside_is measure levels master =
      ap (sum_by (λ i. instance_own measure (all_module_counts h.plans) i + inside measure (all_module_counts h.plans) (all_instance_counts h.plans) levels i.master)) (instances_are master)
      ∙ sum_mapped (λ i. instance_own measure (all_module_counts h.plans) i + inside measure (all_module_counts h.plans) (all_instance_counts h.plans) levels i.master) (instance_counts h.plans) (instance_list (plan_at h master).steps)

  -- ---- steps

  abbrev inner_nets : Inner → Place → PlanInstance → ℕ → ℕ
  inner_nets inner at i next = length (inner i.master (at.path ++ Written i.name ∷ []) (bound_numbers at.numbers (plan_at h i.master).ports i.connections) next).net_names

  abbrev inner_elements : Inner → Place → PlanInstance → ℕ → ℕ
  inner_elements inner at i next = length (inner i.master (at.path ++ Written i.name ∷ []) (bound_numbers at.numbers (plan_at h i.master).ports i.connections) next).elements

  steps_nets : (P : PlanStep → Type 0) (inner : Inner) (at : Place) (f : PlanInstance → ℕ) → ((i : PlanInstance) (next : ℕ) → P (InstanceStep i) → inner_nets inner at i next ≡ f i)
      → (next : ℕ) (ss : List PlanStep) → AllByRecursion P ss → length (steps_additions inner h at next ss).net_names ≡ sum_by f (instance_list ss)
  steps_nets P inner at f each next [] is = refl
  steps_nets P inner at f each next (ElementStep e ∷ ss) is = steps_nets P inner at f each (next + 0) ss is.1
  steps_nets P inner at f each next (InstanceStep i ∷ ss) is =
      let first = step_additions inner h at next (InstanceStep i) in
      let then = next + length first.net_names in
      length_append first.net_names (steps_additions inner h at then ss).net_names
      ∙ ap (λ n. n + length (steps_additions inner h at then ss).net_names) (each i next is.0)
      ∙ ap (λ n. f i + n) (steps_nets P inner at f each then ss is.1)
      ∙ sym (sum_by-cons f i (instance_list ss))

  steps_elements : (inner : Inner) (at : Place) (f : PlanInstance → ℕ) → ((i : PlanInstance) (next : ℕ) → inner_elements inner at i next ≡ f i)
      → (next : ℕ) (ss : List PlanStep) → length (steps_additions inner h at next ss).elements ≡ length (element_list ss) + sum_by f (instance_list ss)
  steps_elements inner at f each next [] = refl
  steps_elements inner at f each next (ElementStep e ∷ ss) = let rest = steps_elements inner at f each (next + 0) ss in omega arith
  steps_elements inner at f each next (InstanceStep i ∷ ss) =
      let first = step_additions inner h at next (InstanceStep i) in
      let then = next + length first.net_names in
      let count = length_append first.elements (steps_additions inner h at then ss).elements in
      let own_count = each i next in
      let rest = steps_elements inner at f each then ss in
      let sum = sum_by-cons f i (instance_list ss) in
      omega arith

  sum_zero : (is : List PlanInstance) → sum_by (λ (i : PlanInstance). 0) is ≡ 0
  sum_zero [] = refl
  sum_zero (i ∷ is) = let rest = sum_zero is in sum_by-cons (λ (i : PlanInstance). 0) i is ∙ ap (λ n. 0 + n) rest

  -- ---- elements

  elements_count : (levels master : ℕ) (path : List Own) (outside : List (ℕ × ℕ)) (next : ℕ)
      → length (additions h (suc levels) master path outside next).elements ≡ length (element_list (plan_at h master).steps) + inside Elements (all_module_counts h.plans) (all_instance_counts h.plans) levels master
  unfolding additions inside
  elements_count zero master path outside next =
      let at = place_of h master path outside next in
      let then = next + length (nets_additions h at (plan_at h master)).net_names in
      steps_elements (additions h zero) at (λ i. 0) (λ i n. refl) then (plan_at h master).steps
      ∙ ap (λ n. length (element_list (plan_at h master).steps) + n) (sum_zero (instance_list (plan_at h master).steps))
  elements_count (suc levels) master path outside next =
      let at = place_of h master path outside next in
      let then = next + length (nets_additions h at (plan_at h master)).net_names in
      let f = λ (i : PlanInstance). instance_own Elements (all_module_counts h.plans) (instance_counts h.plans i) + inside Elements (all_module_counts h.plans) (all_instance_counts h.plans) levels i.master in
      steps_elements (additions h (suc levels)) at f
      (λ i n. elements_count levels i.master (at.path ++ Written i.name ∷ []) (bound_numbers at.numbers (plan_at h i.master).ports i.connections) n
      ∙ ap (λ (m : ModuleCounts). m.elements + inside Elements (all_module_counts h.plans) (all_instance_counts h.plans) levels i.master) (sym (module_is i.master))) then (plan_at h master).steps
      ∙ ap (λ n. length (element_list (plan_at h master).steps) + n) (sym (inside_is Elements levels master))

  -- ---- nets

  module _ (udps : List Primitive) (sound : (master : ℕ) → IsSoundPlan udps (plan_at h master)) where
    -- the nets that an instance adds by itself are those that its counts give
    instance_nets : (bits : ℕ) (numbers : List ℕ) (i : PlanInstance) → IsPlanInstance bits i
        → unbound (bound_numbers numbers (plan_at h i.master).ports i.connections) (range_with_len 0 (bit_count (plan_at h i.master).nets))
        ≡ instance_own Nets (all_module_counts h.plans) (instance_counts h.plans i)
    instance_nets bits numbers i is =
        let inner = plan_at h i.master in
        let of = sound i.master in
        let whole = unbound_count (bit_count inner.nets) numbers inner.ports i.connections
        (apart_distinct (map (λ c. c.port) i.connections) is.once) (apart_distinct (ports_bits inner.ports) of.apart) (each_from_All (λ bit. bit < bit_count inner.nets) (ports_bits inner.ports) of.ports) in
        let own : (module_at (all_module_counts h.plans) i.master).nets ≡ bit_count inner.nets = ap (λ (m : ModuleCounts). m.nets) (module_is i.master) in
        omega arith

    nets_count : (levels master : ℕ) (path : List Own) (outside : List (ℕ × ℕ)) (next : ℕ)
        → length (additions h (suc levels) master path outside next).net_names
        ≡ unbound outside (range_with_len 0 (bit_count (plan_at h master).nets)) + inside Nets (all_module_counts h.plans) (all_instance_counts h.plans) levels master
    unfolding additions inside
    nets_count zero master path outside next =
        let at = place_of h master path outside next in
        let plan = plan_at h master in
        let own_names = (nets_additions h at plan).net_names in
        let then = next + length own_names in
        length_append own_names (steps_additions (additions h zero) h at then plan.steps).net_names
        ∙ ap (λ n. n + length (steps_additions (additions h zero) h at then plan.steps).net_names) (own_nets h master path outside next (sound master).row)
        ∙ ap (λ n. unbound outside (range_with_len 0 (bit_count plan.nets)) + n)
        (steps_nets (IsPlanStep udps (bit_count plan.nets)) (additions h zero) at (λ i. 0) (λ i n is. refl) then plan.steps (each_from_All (IsPlanStep udps (bit_count plan.nets)) plan.steps (sound master).steps)
        ∙ sum_zero (instance_list plan.steps))
    nets_count (suc levels) master path outside next =
        let at = place_of h master path outside next in
        let plan = plan_at h master in
        let own_names = (nets_additions h at plan).net_names in
        let then = next + length own_names in
        let f = λ (i : PlanInstance). instance_own Nets (all_module_counts h.plans) (instance_counts h.plans i) + inside Nets (all_module_counts h.plans) (all_instance_counts h.plans) levels i.master in
        length_append own_names (steps_additions (additions h (suc levels)) h at then plan.steps).net_names
        ∙ ap (λ n. n + length (steps_additions (additions h (suc levels)) h at then plan.steps).net_names) (own_nets h master path outside next (sound master).row)
        ∙ ap (λ n. unbound outside (range_with_len 0 (bit_count plan.nets)) + n)
        (steps_nets (IsPlanStep udps (bit_count plan.nets)) (additions h (suc levels)) at f
        (λ i n is. nets_count levels i.master (at.path ++ Written i.name ∷ []) (bound_numbers at.numbers (plan_at h i.master).ports i.connections) n
        ∙ ap (λ k. k + inside Nets (all_module_counts h.plans) (all_instance_counts h.plans) levels i.master) (instance_nets (bit_count plan.nets) at.numbers i is)) then plan.steps
        (each_from_All (IsPlanStep udps (bit_count plan.nets)) plan.steps (sound master).steps)
        ∙ sym (inside_is Nets levels master))

-- ---- the laws

unbound_all : (bits : List ℕ) → unbound [] bits ≡ length bits
unbound_all [] = refl
unbound_all (bit ∷ bits) = let rest = unbound_all bits in omega arith

pub flattening-elements : (h : Hierarchy) (top : ℕ) → length (flattening h top).elements ≡ whole Elements (all_module_counts h.plans) (all_instance_counts h.plans) 63 top
flattening-elements h top =
    elements_count h 63 top [] [] 0
    ∙ ap (λ (m : ModuleCounts). m.elements + inside Elements (all_module_counts h.plans) (all_instance_counts h.plans) 63 top) (sym (module_is h top))

pub flattening-nets : (udps : List Primitive) (h : Hierarchy) → All (IsSoundPlan udps) h.plans → (top : ℕ)
    → length (flattening h top).net_names ≡ whole Nets (all_module_counts h.plans) (all_instance_counts h.plans) 63 top
flattening-nets udps h plans top =
    let sound : (master : ℕ) → IsSoundPlan udps (plan_at h master)
    = λ master. plan_is (IsSoundPlan udps) h.plans master (none_sound udps) (each_from_All (IsSoundPlan udps) h.plans plans) in
    nets_count h udps sound 63 top [] [] 0
    ∙ ap (λ n. n + inside Nets (all_module_counts h.plans) (all_instance_counts h.plans) 63 top)
    (unbound_all (range_with_len 0 (bit_count (plan_at h top).nets)) ∙ length_range 0 (bit_count (plan_at h top).nets) ∙ sym (ap (λ (m : ModuleCounts). m.nets) (module_is h top)))
