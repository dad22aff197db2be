-- What a flattening adds has its nets among those that it adds and those before.
use Rattle.std.proofs.Common.{◌≡◌, ℕ, zero, suc, ◌+◌, ◌<◌, ◌≤◌, ◌^◌, List, [], ◌∷◌, ◌++◌, length, map, Option, Some, None, refl, sym, ap, subst, ◌∙◌, arith}
use Rattle.std.specs.Prelude.{slice_get, slice_index_or}
use Rattle.std.specs.Option.{is_some, option_map, option_map_or}
use Rattle.std.specs.List.{All, AllByRecursion, flat_map, zip}
use Rattle.v_tree.specs.declared.locations.Location.{Location}
use Rattle.v_tree.specs.declared.expressions.RangeBounds.{RangeBounds}
use Rattle.udp_table.specs.Primitive.{Primitive}
use Rattle.flat_net.specs.declared.parts.Element.{Element}
use Rattle.flat_net.specs.declared.parts.Find.{Find}
use Rattle.flat_net.specs.Elements.{HasPinsOf, IsElement, end_nets, pin_nets}
use Rattle.flat_net.specs.Islands.{HasCharge}
use Rattle.flat_net.specs.Soundness.{IsFind}
use Rattle.item_parts.specs.Widths.{range_width}
use Rattle.flat_names.specs.Spelling.{Own, Written}
use Rattle.netlist_plan.specs.declared.claims.NetClaim.{NetClaim}
use Rattle.netlist_plan.specs.declared.plan.PlanElement.{PlanElement}
use Rattle.netlist_plan.specs.declared.plan.PlanInstance.{PlanInstance}
use Rattle.netlist_plan.specs.declared.plan.PlanNet.{PlanNet}
use Rattle.netlist_plan.specs.declared.plan.PlanStep.{PlanStep}
use Rattle.netlist_plan.specs.declared.plan.PlanStep.TheVariants.{Element as ElementStep, Instance as InstanceStep}
use Rattle.netlist_plan.specs.declared.plan.PortBits.{PortBits}
use Rattle.netlist_plan.specs.declared.plan.SwitchTerminal.{SwitchTerminal}
use Rattle.netlist_plan.specs.declared.plan.ModulePlan.{ModulePlan}
use Rattle.netlist_plan.specs.Additions.{Additions, joined, nothing}
use Rattle.netlist_plan.specs.Flattening.{Hierarchy, Inner, Place, additions, bit_count, bit_find, bit_finds, bound_numbers, end_numbers, flat_element, net_claim, net_claims, net_finds, net_places, nets_additions, no_plan, numbers_of, place_of, plan_at, port_numbers, step_additions, steps_additions, terminal_number}
use Rattle.flattening_laws.specs.SoundPlans.{AreInRow, IsConnection, IsPlanElement, IsPlanInstance, IsPlanNet, IsPlanStep, IsSoundPlan}
use Rattle.flattening_laws.proofs.Apart.{All_from_each, each_append, each_flat_map, each_from_All, each_map, each_weaker}
use Rattle.flattening_laws.proofs.BitNames.{each_range}
use Rattle.flattening_laws.proofs.TreeNames.{map_append}
use Rattle.flattening_laws.proofs.Numbers.{AreOutside, length_append, length_map, length_range, outside_more, own_nets, place_length, place_numbers}

-- the nets of claims, elements and finds are fewer than this, and all three are sound
pub record IsWithin (udps : List Primitive) (n : ℕ) (a : Additions) : Type 0 where
  pub claims : AllByRecursion (λ (c : ℕ × NetClaim). (c.0 < n) × HasCharge c.1.class.kind c.1.class.charge) a.claims
  pub elements : AllByRecursion (IsElement n udps) a.elements
  pub finds : AllByRecursion (IsFind n) a.finds
  pub terminals : AllByRecursion (λ (t : ℕ × Location). t.0 < n) a.terminals

module _ (udps : List Primitive) where
  within_nothing : (n : ℕ) → IsWithin udps n nothing
  within_nothing n = record { claims = tt; elements = tt; finds = tt; terminals = tt }

  within_joined : (n : ℕ) (a b : Additions) → IsWithin udps n a → IsWithin udps n b → IsWithin udps n (joined a b)
  within_joined n a b h k = record {
    claims = each_append (λ (c : ℕ × NetClaim). (c.0 < n) × HasCharge c.1.class.kind c.1.class.charge) a.claims b.claims h.claims k.claims;
    elements = each_append (IsElement n udps) a.elements b.elements h.elements k.elements;
    finds = each_append (IsFind n) a.finds b.finds h.finds k.finds;
    terminals = each_append (λ (t : ℕ × Location). t.0 < n) a.terminals b.terminals h.terminals k.terminals;
  }

  all_more : (n m : ℕ) (nets : List ℕ) → n ≤ m → All (λ net. net < n) nets → All (λ net. net < m) nets
  all_more n m nets le h k d less = let small = h k d less in omega arith

  element_more : (n m : ℕ) (e : Element) → n ≤ m → IsElement n udps e → IsElement m udps e
  element_more n m e le is = record {
    strengths = is.strengths;
    pins = is.pins;
    ends = is.ends;
    few = is.few;
    nets = all_more n m (pin_nets e) le is.nets;
  }

  find_more : (n m : ℕ) (f : Find) → n ≤ m → IsFind n f → IsFind m f
  find_more n m f le is = record { filled = is.filled; within = all_more n m f.nets le is.within }

  within_more : (n m : ℕ) (a : Additions) → n ≤ m → IsWithin udps n a → IsWithin udps m a
  within_more n m a le h = record {
    claims = each_weaker (λ (c : ℕ × NetClaim). (c.0 < n) × HasCharge c.1.class.kind c.1.class.charge) (λ (c : ℕ × NetClaim). (c.0 < m) × HasCharge c.1.class.kind c.1.class.charge) a.claims (λ c is. let less = is.0 in (omega arith, is.1)) h.claims;
    elements = each_weaker (IsElement n udps) (IsElement m udps) a.elements (λ e is. element_more n m e le is) h.elements;
    finds = each_weaker (IsFind n) (IsFind m) a.finds (λ f is. find_more n m f le is) h.finds;
    terminals = each_weaker (λ (t : ℕ × Location). t.0 < n) (λ (t : ℕ × Location). t.0 < m) a.terminals (λ t less. omega arith) h.terminals;
  }

-- ---- the numbers of bits

-- a place where this many bits have numbers below n
record IsPlace (bits n : ℕ) (at : Place) : Type 0 where
  pub length : length at.numbers ≡ bits
  pub small : All (λ number. number < n) at.numbers

number_at : (bits n : ℕ) (at : Place) (bit : ℕ) → IsPlace bits n at → bit < bits → slice_index_or at.numbers bit 0 < n
number_at bits n at bit is less = is.small bit 0 (let same = is.length in omega arith)

numbers_within : (bits n : ℕ) (at : Place) (list : List ℕ) → IsPlace bits n at → AllByRecursion (λ bit. bit < bits) list → AllByRecursion (λ number. number < n) (numbers_of at.numbers list)
numbers_within bits n at list is h =
    each_map (λ number. number < n) (λ bit. slice_index_or at.numbers bit 0) list
    (each_weaker (λ bit. bit < bits) (λ bit. slice_index_or at.numbers bit 0 < n) list (λ bit less. number_at bits n at bit is less) h)

-- ---- elements

module _ (udps : List Primitive) (h : Hierarchy) (bits n : ℕ) (at : Place) (is : IsPlace bits n at) where
  pins_are : (e : PlanElement) → pin_nets (flat_element h at e) ≡ numbers_of at.numbers (end_nets e.ends ++ e.outs ++ e.ins)
  pins_are e =
      ap (λ (xs : List ℕ). xs ++ numbers_of at.numbers e.outs ++ numbers_of at.numbers e.ins) (by_ends e.ends)
      ∙ ap (λ (xs : List ℕ). xs ++ numbers_of at.numbers e.ins) (sym (map_append (λ bit. slice_index_or at.numbers bit 0) (end_nets e.ends) e.outs))
      ∙ sym (map_append (λ bit. slice_index_or at.numbers bit 0) (end_nets e.ends ++ e.outs) e.ins)
    where
      by_ends : (ends : Option (ℕ × ℕ)) → end_nets (option_map (end_numbers at.numbers) ends) ≡ numbers_of at.numbers (end_nets ends)
      by_ends None = refl
      by_ends (Some ends) = refl

  ends_are : (e : PlanElement) → is_some (option_map (end_numbers at.numbers) e.ends) ≡ is_some e.ends
  ends_are e = by_ends e.ends
    where
      by_ends : (ends : Option (ℕ × ℕ)) → is_some (option_map (end_numbers at.numbers) ends) ≡ is_some ends
      by_ends None = refl
      by_ends (Some ends) = refl

  element_within : (e : PlanElement) → IsPlanElement udps bits e → IsElement n udps (flat_element h at e)
  element_within e of =
      let pins = pins_are e in
      let list = end_nets e.ends ++ e.outs ++ e.ins in
      let count : length (pin_nets (flat_element h at e)) ≡ length list = ap length pins ∙ length_map (λ bit. slice_index_or at.numbers bit 0) list in
      let outs : length (numbers_of at.numbers e.outs) ≡ length e.outs = length_map (λ bit. slice_index_or at.numbers bit 0) e.outs in
      let ins : length (numbers_of at.numbers e.ins) ≡ length e.ins = length_map (λ bit. slice_index_or at.numbers bit 0) e.ins in
      record {
        strengths = of.strengths;
        pins = subst (λ k. HasPinsOf udps e.kind k (length (numbers_of at.numbers e.ins))) (sym outs) (subst (λ k. HasPinsOf udps e.kind (length e.outs) k) (sym ins) of.pins);
        ends = ends_are e ∙ of.switch;
        few = subst (λ k. k < 2 ^ 32) (sym count) of.few;
        nets = subst (λ (xs : List ℕ). All (λ net. net < n) xs) (sym pins) (All_from_each (λ net. net < n) (numbers_of at.numbers list) (numbers_within bits n at list is (each_from_All (λ bit. bit < bits) list of.within)));
      }

  -- ---- nets

  abbrev bit_number : PlanNet → ℕ → ℕ
  bit_number net place = slice_index_or at.numbers (net.first + place) 0

  places_within : (net : PlanNet) → net.first + range_width net.range ≤ bits → AllByRecursion (λ place. bit_number net place < n) (net_places net)
  places_within net fits = each_range (λ place. bit_number net place < n) 0 (range_width net.range) (λ place least less. number_at bits n at (net.first + place) is (omega arith))

  net_filled : (net : PlanNet) → 0 < length (map (bit_number net) (net_places net))
  net_filled net =
      let count : length (map (bit_number net) (net_places net)) ≡ range_width net.range = length_map (bit_number net) (net_places net) ∙ length_range 0 (range_width net.range) in
      subst (λ k. 0 < k) (sym count) (by_range net.range)
    where
      by_range : (range : Option RangeBounds) → 0 < range_width range
      by_range None = omega arith
      by_range (Some range) = omega arith

  finds_within : (net : PlanNet) → net.first + range_width net.range ≤ bits → AllByRecursion (IsFind n) (net_finds at net)
  finds_within net fits = (
    record {
      filled = net_filled net;
      within = All_from_each (λ k. k < n) (map (bit_number net) (net_places net)) (each_map (λ k. k < n) (bit_number net) (net_places net) (places_within net fits));
    },
    by_range net.range,
  )
    where
      by_range : (range : Option RangeBounds) → AllByRecursion (IsFind n) (bit_finds at net range)
      by_range None = tt
      by_range (Some range) =
          each_map (IsFind n) (bit_find at net) (net_places net)
          (each_weaker (λ place. bit_number net place < n) (λ place. IsFind n (bit_find at net place)) (net_places net)
          (λ place less. record { filled = omega arith; within = All_from_each (λ k. k < n) (bit_number net place ∷ []) (less, tt) }) (places_within net fits))

  claims_within : (net : PlanNet) → net.first + range_width net.range ≤ bits → HasCharge net.class.kind net.class.charge
      → AllByRecursion (λ (c : ℕ × NetClaim). (c.0 < n) × HasCharge c.1.class.kind c.1.class.charge) (net_claims h at net)
  claims_within net fits charge =
      each_map (λ (c : ℕ × NetClaim). (c.0 < n) × HasCharge c.1.class.kind c.1.class.charge) (λ place. (bit_number net place, net_claim h at net)) (net_places net)
      (each_weaker (λ place. bit_number net place < n) (λ place. (bit_number net place < n) × HasCharge net.class.kind net.class.charge) (net_places net) (λ place less. (less, charge)) (places_within net fits))

  abbrev ClaimWithin : ℕ × NetClaim → Type 0
  ClaimWithin c = (c.0 < n) × HasCharge c.1.class.kind c.1.class.charge

  lists_within : (nets : List PlanNet) (first : ℕ) → AreInRow first nets → first + bit_count nets ≤ bits → AllByRecursion IsPlanNet nets
      → AllByRecursion ClaimWithin (flat_map (net_claims h at) nets) × AllByRecursion (IsFind n) (flat_map (net_finds at) nets)
  lists_within [] first row fits of = (tt, tt)
  lists_within (net ∷ nets) first row fits of =
      let fit : net.first + range_width net.range ≤ bits = omega (arith, row.0) in
      let rest = lists_within nets (first + range_width net.range) row.1 (omega arith) of.1 in (
        each_append ClaimWithin (net_claims h at net) (flat_map (net_claims h at) nets) (claims_within net fit of.0.charge) rest.0,
        each_append (IsFind n) (net_finds at net) (flat_map (net_finds at) nets) (finds_within net fit) rest.1,
      )

  terminals_within : (terminals : List SwitchTerminal) → AllByRecursion (λ t. t.bit < bits) terminals → AllByRecursion (λ (t : ℕ × Location). t.0 < n) (map (terminal_number at) terminals)
  terminals_within terminals h =
      each_map (λ (t : ℕ × Location). t.0 < n) (terminal_number at) terminals
      (each_weaker (λ t. t.bit < bits) (λ t. (terminal_number at t).0 < n) terminals (λ t less. number_at bits n at t.bit is less) h)

  nets_within : (plan : ModulePlan) → AreInRow 0 plan.nets → bit_count plan.nets ≤ bits → AllByRecursion IsPlanNet plan.nets → AllByRecursion (λ t. t.bit < bits) plan.terminals
      → IsWithin udps n (nets_additions h at plan)
  nets_within plan row fits of small =
      let lists = lists_within plan.nets 0 row (omega arith) of in
      record { claims = lists.0; elements = tt; finds = lists.1; terminals = terminals_within plan.terminals small }

  -- ---- instances

  zip_outside : (xs ys : List ℕ) → AllByRecursion (λ number. number < n) ys → AreOutside n (zip xs ys)
  zip_outside [] ys h = tt
  zip_outside (x ∷ xs) [] h = tt
  zip_outside (x ∷ xs) (y ∷ ys) h = (h.0, zip_outside xs ys h.1)

  port_outside : (ports : List PortBits) (c : PortBits) → AllByRecursion (λ bit. bit < bits) c.bits → AreOutside n (port_numbers at.numbers ports c)
  port_outside ports c h = by_port (slice_get ports c.port)
    where
      by_port : (port : Option PortBits) → AreOutside n (option_map_or (λ port. zip port.bits (numbers_of at.numbers c.bits)) port [])
      by_port None = tt
      by_port (Some port) = zip_outside port.bits (numbers_of at.numbers c.bits) (numbers_within bits n at c.bits is h)

  bound_outside : (ports connections : List PortBits) → AllByRecursion (λ c. AllByRecursion (λ bit. bit < bits) c.bits) connections → AreOutside n (bound_numbers at.numbers ports connections)
  bound_outside ports connections h =
      each_flat_map (λ (o : ℕ × ℕ). o.1 < n) (port_numbers at.numbers ports) connections
      (each_weaker (λ c. AllByRecursion (λ bit. bit < bits) c.bits) (λ c. AreOutside n (port_numbers at.numbers ports c)) connections (λ c k. port_outside ports c k) h)

-- ---- hierarchies

pub plan_is : (P : ModulePlan → Type 0) (plans : List ModulePlan) (master : ℕ) → P no_plan → AllByRecursion P plans → P (slice_index_or plans master no_plan)
plan_is P [] master none each = none
plan_is P (p ∷ plans) zero none each = each.0
plan_is P (p ∷ plans) (suc master) none each = plan_is P plans master none each.1

module _ (udps : List Primitive) (h : Hierarchy) (sound : (master : ℕ) → IsSoundPlan udps (plan_at h master)) where
  -- an instance keeps its nets among those before it and its own
  abbrev KeepsWithin : Inner → Type 0
  KeepsWithin inner = (master : ℕ) (path : List Own) (outside : List (ℕ × ℕ)) (next : ℕ) → AreOutside next outside → IsWithin udps (next + length (inner master path outside next).net_names) (inner master path outside next)

  connections_within : (bits : ℕ) (i : PlanInstance) → IsPlanInstance bits i → AllByRecursion (λ c. AllByRecursion (λ bit. bit < bits) c.bits) i.connections
  connections_within bits i is =
      each_weaker (IsConnection bits) (λ c. AllByRecursion (λ bit. bit < bits) c.bits) i.connections
      (λ c of. each_from_All (λ bit. bit < bits) c.bits of) (each_from_All (IsConnection bits) i.connections is.connections)

  step_within : (inner : Inner) (bits n : ℕ) (at : Place) (next : ℕ) (s : PlanStep) → IsPlace bits n at → n ≤ next → IsPlanStep udps bits s → KeepsWithin inner
      → IsWithin udps (next + length (step_additions inner h at next s).net_names) (step_additions inner h at next s)
  step_within inner bits n at next (ElementStep e) is le of keeps = record {
    claims = tt;
    elements = (element_more udps n (next + 0) (flat_element h at e) (omega arith) (element_within udps h bits n at is e of), tt);
    finds = tt;
    terminals = tt;
  }
  step_within inner bits n at next (InstanceStep i) is le of keeps =
      let outside = bound_numbers at.numbers (plan_at h i.master).ports i.connections in
      keeps i.master (at.path ++ Written i.name ∷ []) outside next
      (outside_more n next outside le (bound_outside udps h bits n at is (plan_at h i.master).ports i.connections (connections_within bits i of)))

  steps_within : (inner : Inner) (bits n : ℕ) (at : Place) (next : ℕ) (ss : List PlanStep) → IsPlace bits n at → n ≤ next → AllByRecursion (IsPlanStep udps bits) ss → KeepsWithin inner
      → IsWithin udps (next + length (steps_additions inner h at next ss).net_names) (steps_additions inner h at next ss)
  steps_within inner bits n at next [] is le of keeps = within_nothing udps (next + 0)
  steps_within inner bits n at next (s ∷ ss) is le of keeps =
      let first = step_additions inner h at next s in
      let then = next + length first.net_names in
      let rest = steps_additions inner h at then ss in
      let count = length_append first.net_names rest.net_names in
      let whole = next + length (first.net_names ++ rest.net_names) in
      within_joined udps whole first rest
      (within_more udps then whole first (omega arith) (step_within inner bits n at next s is le of.0 keeps))
      (within_more udps (then + length rest.net_names) whole rest (omega arith) (steps_within inner bits n at then ss is (omega arith) of.1 keeps))

  pub additions_within : (levels : ℕ) → KeepsWithin (additions h levels)
  unfolding additions
  additions_within zero master path outside next o = within_nothing udps (next + 0)
  additions_within (suc levels) master path outside next o =
      let at = place_of h master path outside next in
      let plan = plan_at h master in
      let own = nets_additions h at plan in
      let then = next + length own.net_names in
      let rest = steps_additions (additions h levels) h at then plan.steps in
      let count = length_append own.net_names rest.net_names in
      let whole = next + length (own.net_names ++ rest.net_names) in
      let of = sound master in
      let counted = own_nets h master path outside next of.row in
      let is : IsPlace (bit_count plan.nets) then at = record {
        length = place_length h master path outside next;
        small = All_from_each (λ number. number < then) at.numbers (subst (λ k. AllByRecursion (λ number. number < next + k) at.numbers) (sym counted) (place_numbers h master path outside next o));
      } in
      within_joined udps whole own rest
      (within_more udps then whole own (omega arith) (nets_within udps h (bit_count plan.nets) then at is plan of.row (omega arith) (each_from_All IsPlanNet plan.nets of.nets) (each_from_All (λ t. t.bit < bit_count plan.nets) plan.terminals of.terminals)))
      (within_more udps (then + length rest.net_names) whole rest (omega arith)
      (steps_within (additions h levels) (bit_count plan.nets) then at then plan.steps is (omega arith) (each_from_All (IsPlanStep udps (bit_count plan.nets)) plan.steps of.steps) (additions_within levels)))
