-- The instances among the steps of a plan are those of its parts, and connect as many bits as are counted for them.
use Rattle.std.proofs.Common.{◌≡◌, ℕ, zero, suc, ◌+◌, min, List, [], ◌∷◌, ◌++◌, length, map, Option, Some, None, refl, sym, ap, ◌∙◌, arith}
use Rattle.std.specs.Prelude.{slice_get, slice_index_or, sum_by}
use Rattle.std.specs.Option.{option_map_or}
use Rattle.std.specs.List.{flat_map}
use Rattle.std.proofs.lemmas.List.Sums.{sum_by-cons}
use Rattle.module_scope.specs.declared.scopes.Scope.{Scope}
use Rattle.expression_bits.specs.Runs.{runs_width}
use Rattle.module_parts.specs.declared.parts.PortRuns.{PortRuns}
use Rattle.module_parts.specs.declared.parts.InstancePart.{InstancePart}
use Rattle.module_parts.specs.declared.parts.ModulePart.{ModulePart}
use Rattle.module_parts.specs.declared.parts.ModulePart.TheVariants.{Names, Gate, Pair, Instance}
use Rattle.netlist_plan.specs.declared.nets.ModuleNet.{ModuleNet}
use Rattle.netlist_plan.specs.declared.plan.PlanElement.{PlanElement}
use Rattle.netlist_plan.specs.declared.plan.PlanInstance.{PlanInstance}
use Rattle.netlist_plan.specs.declared.plan.PlanStep.{PlanStep}
use Rattle.netlist_plan.specs.declared.plan.PlanStep.TheVariants.{Element as ElementStep, Instance as InstanceStep}
use Rattle.netlist_plan.specs.declared.plan.PortBits.{PortBits}
use Rattle.netlist_plan.specs.declared.plan.ModulePlan.{ModulePlan}
use Rattle.netlist_plan.specs.Unnamed.{literal_count, numbered_from, own_count, runs_in, unnamed_count}
use Rattle.netlist_plan.specs.Elements.{connections_bits, constants, runs_bits}
use Rattle.netlist_plan.specs.Plan.{Given, element_steps, gate_elements, instance_plan, own_steps, pair_elements, part_steps}
use Rattle.netlist_plan.specs.Flattening.{no_plan}
use Rattle.flattening_laws.specs.Counts.{connected_count, instance_counts, instance_list}
use Rattle.flattening_laws.proofs.Numbers.{length_append}
use Rattle.flattening_laws.proofs.TreeNames.{map_append}
use Rattle.plan_counts.specs.PartCounts.{bound_bits, counts_of, instances_in, part_counts, part_instances}
use Rattle.plan_counts.specs.PortWidths.{widths_in}
use Rattle.plan_counts.proofs.Lengths.{get_mapped, length_runs}

-- ---- instances among steps

instances_append : (xs ys : List PlanStep) → instance_list (xs ++ ys) ≡ instance_list xs ++ instance_list ys
instances_append [] ys = refl
instances_append (ElementStep e ∷ xs) ys = instances_append xs ys
instances_append (InstanceStep i ∷ xs) ys = ap (λ is. i ∷ is) (instances_append xs ys)

no_instances : (es : List PlanElement) → instance_list (element_steps es) ≡ []
no_instances [] = refl
no_instances (e ∷ es) = no_instances es

-- ---- connected bits

bits_at : (ports : List PortBits) (k n : ℕ) → option_map_or (λ port. min (length port.bits) n) (slice_get ports k) 0 ≡ option_map_or (λ width. min width n) (slice_get (map (λ p. length p.bits) ports) k) 0
bits_at [] k n = refl
bits_at (port ∷ ports) zero n = refl
bits_at (port ∷ ports) (suc k) n = bits_at ports k n

bound-counted : (scope : Scope) (nets : List ModuleNet) (ports : List PortBits) (number : ℕ) (connections : List PortRuns)
    → connected_count ports (connections_bits scope nets number connections) ≡ sum_by (bound_bits scope (map (λ p. length p.bits) ports)) connections
bound-counted scope nets ports number [] = refl
bound-counted scope nets ports number (c ∷ connections) =
    by_port c.port
    ∙ ap (λ n. bound_bits scope widths c + n) (bound-counted scope nets ports (number + literal_count c.runs) connections)
    ∙ sym (sum_by-cons (bound_bits scope widths) c connections)
  where
    widths : List ℕ
    widths = map (λ p. length p.bits) ports

    bits : List ℕ
    bits = runs_bits scope nets number c.runs

    rest : List PortBits
    rest = connections_bits scope nets (number + literal_count c.runs) connections

    by_port : (o : Option ℕ) → connected_count ports (option_map_or (λ port. record { port = port; bits = bits } ∷ []) o [] ++ rest)
        ≡ option_map_or (λ port. option_map_or (λ width. min width (runs_width scope c.runs)) (slice_get widths port) 0) o 0 + connected_count ports rest
    by_port None = omega arith
    by_port (Some port) =
        ap (λ n. n + connected_count ports rest)
        (bits_at ports port (length bits) ∙ ap (λ n. option_map_or (λ width. min width n) (slice_get widths port) 0) (length_runs scope nets number c.runs))

-- ---- parts

module _ (given : Given) where
  -- the instance that a part is
  abbrev plans_of : ℕ → ModulePart → List PlanInstance
  plans_of number (Names names) = []
  plans_of number (Gate g) = []
  plans_of number (Pair p) = []
  plans_of number (Instance i) = instance_plan given number i ∷ []

  own_plans : (number : ℕ) (part : ModulePart) → instance_list (own_steps given number part) ≡ plans_of number part
  own_plans number (Names names) = refl
  own_plans number (Gate g) = no_instances (gate_elements given number g)
  own_plans number (Pair p) = no_instances (pair_elements given number p)
  own_plans number (Instance i) = refl

  part_plans : (number : ℕ) (part : ModulePart) → instance_list (part_steps given (number, part)) ≡ plans_of number part
  part_plans number part =
      let first = constants given.nets (number + own_count part) (runs_in part) in
      instances_append (element_steps first) (own_steps given number part)
      ∙ ap (λ is. is ++ instance_list (own_steps given number part)) (no_instances first)
      ∙ own_plans number part

  plans_append : (number : ℕ) (part : ModulePart) (parts : List ModulePart)
      → instance_list (flat_map (part_steps given) (numbered_from number (part ∷ parts))) ≡ plans_of number part ++ instance_list (flat_map (part_steps given) (numbered_from (number + unnamed_count part) parts))
  plans_append number part parts =
      let rest = flat_map (part_steps given) (numbered_from (number + unnamed_count part) parts) in
      instances_append (part_steps given (number, part)) rest ∙ ap (λ is. is ++ instance_list rest) (part_plans number part)

  plans_count : (number : ℕ) (part : ModulePart) → length (plans_of number part) ≡ part_instances part
  plans_count number (Names names) = refl
  plans_count number (Gate g) = refl
  plans_count number (Pair p) = refl
  plans_count number (Instance i) = refl

  pub instances-counted : (number : ℕ) (parts : List ModulePart) → length (instance_list (flat_map (part_steps given) (numbered_from number parts))) ≡ instances_in parts
  instances-counted number [] = refl
  instances-counted number (part ∷ parts) =
      let rest = instance_list (flat_map (part_steps given) (numbered_from (number + unnamed_count part) parts)) in
      ap length (plans_append number part parts)
      ∙ length_append (plans_of number part) rest
      ∙ ap (λ n. n + length rest) (plans_count number part)
      ∙ ap (λ n. part_instances part + n) (instances-counted (number + unnamed_count part) parts)
      ∙ sym (sum_by-cons part_instances part parts)

  -- ---- with the plans of all modules
  module _ (plans : List ModulePlan) where
    instance-counted : (number : ℕ) (i : InstancePart) → instance_counts plans (instance_plan given number i) ≡ counts_of given.scope (map widths_in plans) i
    instance-counted number i =
        ap (λ n. record { master = i.master; bound = n })
        (bound-counted given.scope given.nets (slice_index_or plans i.master no_plan).ports number i.connections
        ∙ ap (λ widths. sum_by (bound_bits given.scope widths) i.connections) (sym (get_mapped widths_in plans i.master no_plan)))

    part_counted : (number : ℕ) (part : ModulePart) → map (instance_counts plans) (plans_of number part) ≡ part_counts given.scope (map widths_in plans) part
    part_counted number (Names names) = refl
    part_counted number (Gate g) = refl
    part_counted number (Pair p) = refl
    part_counted number (Instance i) = ap (λ c. c ∷ []) (instance-counted number i)

    pub bounds-counted : (number : ℕ) (parts : List ModulePart)
        → map (instance_counts plans) (instance_list (flat_map (part_steps given) (numbered_from number parts))) ≡ flat_map (part_counts given.scope (map widths_in plans)) parts
    bounds-counted number [] = refl
    bounds-counted number (part ∷ parts) =
        let rest = instance_list (flat_map (part_steps given) (numbered_from (number + unnamed_count part) parts)) in
        ap (map (instance_counts plans)) (plans_append number part parts)
        ∙ map_append (instance_counts plans) (plans_of number part) rest
        ∙ ap (λ cs. cs ++ map (instance_counts plans) rest) (part_counted number part)
        ∙ ap (λ cs. part_counts given.scope (map widths_in plans) part ++ cs) (bounds-counted (number + unnamed_count part) parts)
