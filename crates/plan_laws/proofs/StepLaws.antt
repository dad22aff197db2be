-- The steps of sound parts are sound.
use Rattle.std.proofs.Common.{◌≡◌, ℕ, zero, suc, ◌+◌, ◌<◌, ◌≤◌, ◌^◌, List, [], ◌∷◌, ◌++◌, length, drop, Option, Some, None, refl, sym, ap, subst, arith}
use Rattle.std.specs.Option.{option_map_or}
use Rattle.std.specs.List.{AllByRecursion, flat_map}
use Rattle.udp_table.specs.Primitive.{Primitive}
use Rattle.flat_net.specs.Lists.{AreDistinct}
use Rattle.flat_names.specs.Spelling.{IsOwn, IsText}
use Rattle.expression_bits.specs.declared.runs.BitRun.{BitRun}
use Rattle.module_scope.specs.declared.scopes.Scope.{Scope}
use Rattle.module_parts.specs.declared.parts.ModulePart.{ModulePart}
use Rattle.module_parts.specs.declared.parts.ModulePart.TheVariants.{Names, Gate, Pair, Instance}
use Rattle.module_parts.specs.declared.parts.PortRuns.{PortRuns}
use Rattle.netlist_plan.specs.declared.nets.NetSource.{NetSource}
use Rattle.netlist_plan.specs.declared.plan.PlanElement.{PlanElement}
use Rattle.netlist_plan.specs.Unnamed.{literal_count, own_count, runs_in, unnamed_count}
use Rattle.netlist_plan.specs.Nets.{bit_count, nets_from}
use Rattle.netlist_plan.specs.Elements.{connections_bits, constants, gate_name, runs_bits, terminal_bits}
use Rattle.netlist_plan.specs.Plan.{Given, Meanings, element_steps, form_at, gate_elements, own_steps, pair_elements, part_steps, strengths_at}
use Rattle.netlist_plan.specs.Flattening.{own_name}
use Rattle.v_tree.specs.declared.modules.Item.{Item}
use Rattle.flattening_laws.specs.SoundPlans.{IsConnection, IsPlanElement, IsPlanStep}
use Rattle.flattening_laws.proofs.Apart.{All_from_each, each_append, each_from_All}
use Rattle.plan_laws.specs.SoundRuns.{IsSoundRun}
use Rattle.plan_laws.specs.SoundGates.{HasTerminalCount, IsTextIfThere}
use Rattle.plan_laws.specs.SoundParts.{IsNamed, IsSoundPart}
use Rattle.plan_laws.proofs.RowLaws.{AreRising}
use Rattle.plan_laws.proofs.BitLaws.{AreAmong}
use Rattle.plan_laws.proofs.WithinLaws.{among_parts, runs_within, terminals_count, terminals_within}
use Rattle.plan_laws.proofs.GateLaws.{copies_sound, form_sound}
use Rattle.plan_laws.proofs.PortLaws.{constants_sound}
use Rattle.plan_laws.proofs.NetLaws.{connection_runs, connections-within}
use Rattle.plan_laws.proofs.PartLaws.{connections-ports, strengths-levels}

module _ (P : BitRun → Type 0) where
  -- what holds of all runs of lists holds of those of each
  each_list : (lists : List (List BitRun)) → AllByRecursion P (flat_map (λ runs. runs) lists) → AllByRecursion (λ runs. AllByRecursion P runs) lists
  each_list [] h = tt
  each_list (runs ∷ lists) h = let split = parts runs (flat_map (λ rs. rs) lists) h in (split.0, each_list lists split.1)
    where
      parts : (xs ys : List BitRun) → AllByRecursion P (xs ++ ys) → AllByRecursion P xs × AllByRecursion P ys
      parts [] ys h = (tt, h)
      parts (x ∷ xs) ys h = let rest = parts xs ys h.1 in ((h.0, rest.0), rest.1)

  each_connection : (connections : List PortRuns) → AllByRecursion P (flat_map (λ c. c.runs) connections) → AllByRecursion (λ c. AllByRecursion P c.runs) connections
  each_connection [] h = tt
  each_connection (c ∷ connections) h = let split = parts c.runs (flat_map (λ d. d.runs) connections) h in (split.0, each_connection connections split.1)
    where
      parts : (xs ys : List BitRun) → AllByRecursion P (xs ++ ys) → AllByRecursion P xs × AllByRecursion P ys
      parts [] ys h = (tt, h)
      parts (x ∷ xs) ys h = let rest = parts xs ys h.1 in ((h.0, rest.0), rest.1)

  both_parts : (xs ys : List BitRun) → AllByRecursion P (xs ++ ys) → AllByRecursion P xs × AllByRecursion P ys
  both_parts [] ys h = (tt, h)
  both_parts (x ∷ xs) ys h = let rest = both_parts xs ys h.1 in ((h.0, rest.0), rest.1)

runs_are : (connections : List PortRuns) → flat_map (λ c. c.runs) connections ≡ connection_runs connections
runs_are [] = refl
runs_are (c ∷ connections) = ap (λ rs. c.runs ++ rs) (runs_are connections)

each_drop : (P : ℕ → Type 0) (n : ℕ) (xs : List ℕ) → AllByRecursion P xs → AllByRecursion P (drop n xs)
each_drop P zero xs h = h
each_drop P (suc n) [] h = tt
each_drop P (suc n) (x ∷ xs) h = each_drop P n xs h.1

both_each : {X : Type 0} (P Q : X → Type 0) (xs : List X) → AllByRecursion P xs → AllByRecursion Q xs → AllByRecursion (λ x. P x × Q x) xs
both_each P Q [] h k = tt
both_each P Q (x ∷ xs) h k = ((h.0, k.0), both_each P Q xs h.1 k.1)

module _ (udps : List Primitive) (scope : Scope) (sources : List NetSource) (rising : AreRising 0 sources) (items : List Item) (meanings : Meanings) where
  abbrev given : Given
  given = record { scope = scope; nets = nets_from scope 0 sources; items = items; meanings = meanings }

  abbrev count : ℕ
  count = bit_count scope (nets_from scope 0 sources)

  element_steps_sound : (elements : List PlanElement) → AllByRecursion (IsPlanElement udps count) elements → AllByRecursion (IsPlanStep udps count) (element_steps elements)
  element_steps_sound [] h = tt
  element_steps_sound (e ∷ elements) h = (h.0, element_steps_sound elements h.1)

  own_sound : (number : ℕ) (part : ModulePart) → number + unnamed_count part ≤ 2 ^ 32 → IsSoundPart udps given (number, part) → AllByRecursion (IsSoundRun scope) (runs_in part)
      → AreAmong sources (number + own_count part) (runs_in part) → AllByRecursion (IsPlanStep udps count) (own_steps given number part)
  own_sound number (Names names) small is runs among = tt
  own_sound number (Gate g) small is runs among =
      let form = form_at meanings items g.item in
      let first = number + own_count (Gate g) in
      let terminals = terminal_bits scope (nets_from scope 0 sources) first g.terminals in
      let counted = terminals_count scope (nets_from scope 0 sources) first g.terminals in
      let within = terminals_within scope sources rising first g.terminals among (both_each (λ runs. 0 < length runs) (λ runs. AllByRecursion (IsSoundRun scope) runs) g.terminals
      (each_from_All (λ runs. 0 < length runs) g.terminals is.terminals) (each_list (IsSoundRun scope) g.terminals runs)) in
      element_steps_sound (gate_elements given number g)
      (form_sound udps count (gate_name number g.name) form (strengths_at items g.item) g.item terminals (gate_named g.name small is.name) (strengths-levels items g.item)
      (subst (λ k. k < 2 ^ 32) (sym counted) is.few) (subst (λ k. HasTerminalCount udps form k) (sym counted) is.count) within)
    where
      gate_named : (name : Option (List ℕ)) → number + (option_map_or (λ n. 0) name 1 + literal_count (runs_in (Gate g))) ≤ 2 ^ 32 → IsTextIfThere name → IsOwn (own_name (gate_name number name))
      gate_named None small is = omega arith
      gate_named (Some name) small is = is
  own_sound number (Pair p) small is runs among =
      let split = both_parts (IsSoundRun scope) p.target p.value.runs runs in
      let parts = among_parts sources (number + 1) p.target p.value.runs among in
      let targets = runs_bits scope (nets_from scope 0 sources) (number + 1) p.target in
      let values = runs_bits scope (nets_from scope 0 sources) (number + 1 + literal_count p.target) p.value.runs in
      element_steps_sound (pair_elements given number p)
      (copies_sound udps count number (strengths_at items p.item) p.item targets (drop p.value.cut values) (omega arith) is (strengths-levels items p.item)
      (runs_within scope sources rising (number + 1) p.target parts.0 split.0)
      (each_drop (λ bit. bit < count) p.value.cut values (runs_within scope sources rising (number + 1 + literal_count p.target) p.value.runs parts.1 split.1)))
  own_sound number (Instance i) small is runs among =
      let within = connections-within scope sources rising number i.connections
      (subst (λ rs. AreAmong sources number rs) (runs_are i.connections) (subst (λ k. AreAmong sources k (runs_in (Instance i))) (omega arith) among))
      (each_connection (IsSoundRun scope) i.connections runs) in
      let ports = connections-ports scope (nets_from scope 0 sources) number i.connections in (
        record {
          name = named i.name is.0;
          connections = All_from_each (IsConnection count) (connections_bits scope (nets_from scope 0 sources) number i.connections) within;
          once = subst (λ (ps : List ℕ). AreDistinct ps) (sym ports) is.1;
        },
        tt,
      )
    where
      named : (name : Option (List ℕ)) → IsNamed name → IsText (option_map_or (λ n. n) name [])
      named None is = absurd is
      named (Some name) is = is

  pub part-sound : (number : ℕ) (part : ModulePart) → number + unnamed_count part ≤ 2 ^ 32 → IsSoundPart udps given (number, part) → AllByRecursion (IsSoundRun scope) (runs_in part)
      → AreAmong sources (number + own_count part) (runs_in part) → AllByRecursion (IsPlanStep udps count) (part_steps given (number, part))
  part-sound number part small is runs among =
      let first = constants (nets_from scope 0 sources) (number + own_count part) (runs_in part) in
      each_append (IsPlanStep udps count) (element_steps first) (own_steps given number part)
      (element_steps_sound first (constants_sound scope sources udps rising (number + own_count part) (runs_in part) among runs (omega arith)))
      (own_sound number part small is runs among)
