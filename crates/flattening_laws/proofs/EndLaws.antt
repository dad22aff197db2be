-- The ends of bidirectional switches are nets at terminals.
use Rattle.std.proofs.Common.{ℕ, zero, suc, ◌+◌, List, [], ◌∷◌, ◌++◌, length, map, Option, Some, None, subst}
use Rattle.std.specs.Prelude.{slice_index_or}
use Rattle.std.specs.Option.{option_map}
use Rattle.std.specs.List.{All, AllByRecursion, Contains}
use Rattle.v_tree.specs.declared.locations.Location.{Location}
use Rattle.udp_table.specs.Primitive.{Primitive}
use Rattle.flat_net.specs.Elements.{end_nets}
use Rattle.flat_names.specs.Spelling.{Own, Written}
use Rattle.netlist_plan.specs.declared.plan.PlanElement.{PlanElement}
use Rattle.netlist_plan.specs.declared.plan.PlanStep.{PlanStep}
use Rattle.netlist_plan.specs.declared.plan.PlanStep.TheVariants.{Element as ElementStep, Instance as InstanceStep}
use Rattle.netlist_plan.specs.declared.plan.SwitchTerminal.{SwitchTerminal}
use Rattle.netlist_plan.specs.Additions.{Additions}
use Rattle.netlist_plan.specs.Flattening.{Hierarchy, Inner, Place, additions, bound_numbers, end_numbers, flat_element, flattening, nets_additions, place_of, plan_at, step_additions, steps_additions, terminal_number}
use Rattle.flattening_laws.specs.SoundPlans.{HasTerminals, IsSoundPlan}
use Rattle.flattening_laws.proofs.Apart.{All_from_each, each_append, each_from_All, each_map, each_of_map, each_weaker}
use Rattle.flattening_laws.proofs.SoundLaws.{none_sound}
use Rattle.flattening_laws.proofs.Within.{plan_is}

each_parts : {X : Type 0} (P : X → Type 0) (xs ys : List X) → AllByRecursion P (xs ++ ys) → AllByRecursion P xs × AllByRecursion P ys
each_parts P [] ys h = (tt, h)
each_parts P (x ∷ xs) ys h = let rest = each_parts P xs ys h.1 in ((h.0, rest.0), rest.1)

module _ (P : ℕ → Type 0) (h : Hierarchy) where
  abbrev AtTerminals : Additions → Type 0
  AtTerminals a = AllByRecursion (λ (t : ℕ × Location). P t.0) a.terminals

  abbrev AtEnds : Additions → Type 0
  AtEnds a = AllByRecursion (λ e. AllByRecursion P (end_nets e.ends)) a.elements

  abbrev KeepsEnds : Inner → Type 0
  KeepsEnds inner = (master : ℕ) (path : List Own) (outside : List (ℕ × ℕ)) (next : ℕ) → AtTerminals (inner master path outside next) → AtEnds (inner master path outside next)

  bit_holds : (at : Place) (bits : List ℕ) (bit : ℕ) → AllByRecursion (λ b. P (slice_index_or at.numbers b 0)) bits → Contains bits bit → P (slice_index_or at.numbers bit 0)
  bit_holds at bits bit each there =
      subst (λ b. P (slice_index_or at.numbers b 0)) there.2 (All_from_each (λ b. P (slice_index_or at.numbers b 0)) bits each there.0 bit there.1)

  element_ends : (at : Place) (bits : List ℕ) (e : PlanElement) → AllByRecursion (λ b. P (slice_index_or at.numbers b 0)) bits → All (Contains bits) (end_nets e.ends) → AllByRecursion P (end_nets (flat_element h at e).ends)
  element_ends at bits e each has = by_ends e.ends (each_from_All (Contains bits) (end_nets e.ends) has)
    where
      by_ends : (ends : Option (ℕ × ℕ)) → AllByRecursion (Contains bits) (end_nets ends) → AllByRecursion P (end_nets (option_map (end_numbers at.numbers) ends))
      by_ends None has = tt
      by_ends (Some ends) has = (bit_holds at bits ends.0 each has.0, (bit_holds at bits ends.1 each has.1.0, tt))

  steps_ends : (inner : Inner) (at : Place) (bits : List ℕ) (next : ℕ) (ss : List PlanStep) → KeepsEnds inner → AllByRecursion (λ b. P (slice_index_or at.numbers b 0)) bits
      → AllByRecursion (HasTerminals bits) ss → AtTerminals (steps_additions inner h at next ss) → AtEnds (steps_additions inner h at next ss)
  steps_ends inner at bits next [] keeps each has all = tt
  steps_ends inner at bits next (ElementStep e ∷ ss) keeps each has all =
      (element_ends at bits e each has.0, steps_ends inner at bits (next + 0) ss keeps each has.1 all)
  steps_ends inner at bits next (InstanceStep i ∷ ss) keeps each has all =
      let first = step_additions inner h at next (InstanceStep i) in
      let rest = steps_additions inner h at (next + length first.net_names) ss in
      let split = each_parts (λ (t : ℕ × Location). P t.0) first.terminals rest.terminals all in
      each_append (λ e. AllByRecursion P (end_nets e.ends)) first.elements rest.elements
      (keeps i.master (at.path ++ Written i.name ∷ []) (bound_numbers at.numbers (plan_at h i.master).ports i.connections) next split.0)
      (steps_ends inner at bits (next + length first.net_names) ss keeps each has.1 split.1)

  additions_ends : ((master : ℕ) → All (HasTerminals (map (λ t. t.bit) (plan_at h master).terminals)) (plan_at h master).steps) → (levels : ℕ) → KeepsEnds (additions h levels)
  unfolding additions
  additions_ends has zero master path outside next all = tt
  additions_ends has (suc levels) master path outside next all =
      let at = place_of h master path outside next in
      let plan = plan_at h master in
      let own = nets_additions h at plan in
      let then = next + length own.net_names in
      let rest = steps_additions (additions h levels) h at then plan.steps in
      let split = each_parts (λ (t : ℕ × Location). P t.0) own.terminals rest.terminals all in
      let bits = map (λ (t : SwitchTerminal). t.bit) plan.terminals in
      let each : AllByRecursion (λ b. P (slice_index_or at.numbers b 0)) bits
      = each_map (λ b. P (slice_index_or at.numbers b 0)) (λ (t : SwitchTerminal). t.bit) plan.terminals (each_of_map (λ (t : ℕ × Location). P t.0) (terminal_number at) plan.terminals split.0) in
      steps_ends (additions h levels) at bits then plan.steps (additions_ends has levels) each (each_from_All (HasTerminals bits) plan.steps (has master)) split.1

-- what holds of the nets at terminals holds of those at ends
pub flattening-ends : (udps : List Primitive) (h : Hierarchy) → All (IsSoundPlan udps) h.plans → (P : ℕ → Type 0) (top : ℕ)
    → All (λ (t : ℕ × Location). P t.0) (flattening h top).terminals → All (λ e. All P (end_nets e.ends)) (flattening h top).elements
flattening-ends udps h plans P top all =
    let sound : (master : ℕ) → IsSoundPlan udps (plan_at h master)
    = λ master. plan_is (IsSoundPlan udps) h.plans master (none_sound udps) (each_from_All (IsSoundPlan udps) h.plans plans) in
    let a = flattening h top in
    let each = additions_ends P h (λ master. (sound master).ends) 64 top [] [] 0 (each_from_All (λ (t : ℕ × Location). P t.0) a.terminals all) in
    All_from_each (λ e. All P (end_nets e.ends)) a.elements (each_weaker (λ e. AllByRecursion P (end_nets e.ends)) (λ e. All P (end_nets e.ends)) a.elements (λ e of. All_from_each P (end_nets e.ends) of) each)
