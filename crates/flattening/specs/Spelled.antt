-- For the code alone: what an instance adds, where its path is given as it is written before a name.
use Rattle.std.specs.Prelude.{ℕ, zero, suc, ◌+◌, true, List, [], ◌∷◌, ◌++◌, map, length, Option, Some, None, slice_index_or, if◌then◌else◌}
use Rattle.std.specs.List.{flat_map, range_with_len}
use Rattle.std.specs.Option.{option_map}
use Rattle.v_tree.specs.declared.locations.Location.{Location}
use Rattle.v_tree.specs.declared.expressions.RangeBounds.{RangeBounds}
use Rattle.flat_net.specs.declared.parts.Element.{Element}
use Rattle.flat_net.specs.declared.parts.Find.{Find}
use Rattle.flat_names.specs.Spelling.{Own, Written, Unnamed, index_spelling, own_spelling, part_spelling}
use Rattle.netlist_plan.specs.declared.plan.ElementName.{ElementName}
use Rattle.netlist_plan.specs.declared.plan.ElementName.TheVariants.{Gate, Half, Bit}
use Rattle.netlist_plan.specs.declared.plan.PlanElement.{PlanElement}
use Rattle.netlist_plan.specs.declared.plan.PlanNet.{PlanNet}
use Rattle.netlist_plan.specs.declared.plan.PlanStep.{PlanStep}
use Rattle.netlist_plan.specs.declared.plan.PlanStep.TheVariants.{Element as ElementStep, Instance as InstanceStep}
use Rattle.netlist_plan.specs.declared.plan.SwitchTerminal.{SwitchTerminal}
use Rattle.netlist_plan.specs.declared.plan.ModulePlan.{ModulePlan}
use Rattle.netlist_plan.specs.declared.claims.NetClaim.{NetClaim}
use Rattle.netlist_plan.specs.Additions.{Additions, joined, nothing}
use Rattle.netlist_plan.specs.Flattening.{bit_count, bit_index, bound_numbers, end_numbers, half_name, is_bound, net_places, no_plan, numbers_from, numbers_of, own_name}
use Rattle.flattening.specs.declared.delays.ItemDelays.{ItemDelays}
use Rattle.flattening.specs.declared.places.Place.{Place}
use Rattle.flattening.specs.Delays.{delays_of}

-- ---- names

abbrev pub spelled_name : List ℕ → Own → Option ℕ → List ℕ
spelled_name prefix own index = prefix ++ (own_spelling own ++ index_spelling index)

abbrev pub element_text : List ℕ → ElementName → List ℕ
element_text prefix (Gate own) = spelled_name prefix (own_name own) None
element_text prefix (Half own on_one) = spelled_name (prefix ++ part_spelling (own_name own)) (Written (half_name on_one)) None
element_text prefix (Bit number index) = spelled_name prefix (Unnamed number) (Some index)

-- ---- nets

abbrev pub new_name : Place → PlanNet → ℕ → List (List ℕ)
new_name at net place =
    if slice_index_or at.bound (net.first + place) true then []
    else spelled_name at.prefix (own_name net.name) (bit_index net.range place) ∷ []

abbrev pub new_names : Place → PlanNet → List (List ℕ)
new_names at net = flat_map (new_name at net) (net_places net)

abbrev pub net_claim : ItemDelays → Place → PlanNet → NetClaim
net_claim delays at net = record { class = net.class; delays = option_map (λ item. delays_of delays at.master (Some item)) net.delay }

abbrev pub net_claims : ItemDelays → Place → PlanNet → List (ℕ × NetClaim)
net_claims delays at net = map (λ place. (slice_index_or at.numbers (net.first + place) 0, net_claim delays at net)) (net_places net)

abbrev pub bit_find : Place → PlanNet → ℕ → Find
bit_find at net place = record {
  name = spelled_name at.prefix (own_name net.name) (bit_index net.range place);
  nets = slice_index_or at.numbers (net.first + place) 0 ∷ [];
}

abbrev pub bit_finds : Place → PlanNet → Option RangeBounds → List Find
bit_finds at net None = []
bit_finds at net (Some range) = map (bit_find at net) (net_places net)

abbrev pub net_find : Place → PlanNet → Find
net_find at net = record {
  name = spelled_name at.prefix (own_name net.name) None;
  nets = map (λ place. slice_index_or at.numbers (net.first + place) 0) (net_places net);
}

abbrev pub net_finds : Place → PlanNet → List Find
net_finds at net = net_find at net ∷ bit_finds at net net.range

abbrev pub terminal_number : Place → SwitchTerminal → ℕ × Location
terminal_number at terminal = (slice_index_or at.numbers terminal.bit 0, terminal.location)

abbrev pub nets_additions : ItemDelays → Place → ModulePlan → Additions
nets_additions delays at plan = record {
  net_names = flat_map (new_names at) plan.nets;
  claims = flat_map (net_claims delays at) plan.nets;
  elements = [];
  element_names = [];
  resistive = [];
  finds = flat_map (net_finds at) plan.nets;
  terminals = map (terminal_number at) plan.terminals;
}

-- ---- elements

abbrev pub flat_element : ItemDelays → Place → PlanElement → Element
flat_element delays at e = record {
  kind = e.kind;
  s0 = e.strengths.zero;
  s1 = e.strengths.one;
  delays = delays_of delays at.master e.item;
  outs = numbers_of at.numbers e.outs;
  ins = numbers_of at.numbers e.ins;
  ends = option_map (end_numbers at.numbers) e.ends;
}

abbrev pub element_additions : ItemDelays → Place → PlanElement → Additions
element_additions delays at e = record nothing {
  elements = flat_element delays at e ∷ [];
  element_names = element_text at.prefix e.name ∷ [];
  resistive = e.resistive ∷ [];
}

-- ---- instances

abbrev pub plan_in : List ModulePlan → ℕ → ModulePlan
plan_in plans master = slice_index_or plans master no_plan

abbrev pub place_of : List PlanNet → ℕ → List ℕ → List (ℕ × ℕ) → ℕ → Place
place_of nets master prefix outside next =
    let bits = range_with_len 0 (bit_count nets) in
    record { master = master; prefix = prefix; numbers = numbers_from outside next bits; bound = map (is_bound outside) bits }

abbrev pub Inner : Type 0
Inner = ℕ → List ℕ → List (ℕ × ℕ) → ℕ → Additions

abbrev pub step_additions : Inner → List ModulePlan → ItemDelays → Place → ℕ → PlanStep → Additions
step_additions inner plans delays at next (ElementStep e) = element_additions delays at e
step_additions inner plans delays at next (InstanceStep i) =
    inner i.master (at.prefix ++ part_spelling (Written i.name)) (bound_numbers at.numbers (plan_in plans i.master).ports i.connections) next

abbrev pub steps_additions : Inner → List ModulePlan → ItemDelays → Place → ℕ → List PlanStep → Additions
steps_additions inner plans delays at next [] = nothing
steps_additions inner plans delays at next (step ∷ steps) =
    let first = step_additions inner plans delays at next step in
    joined first (steps_additions inner plans delays at (next + length first.net_names) steps)

unfoldable pub additions : List ModulePlan → ItemDelays → ℕ → Inner
additions plans delays zero master prefix outside next = nothing
additions plans delays (suc levels) master prefix outside next =
    let plan = plan_in plans master in
    let at = place_of plan.nets master prefix outside next in
    let own = nets_additions delays at plan in
    joined own (steps_additions (additions plans delays levels) plans delays at (next + length own.net_names) plan.steps)
