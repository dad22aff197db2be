-- Flattening: the nets and elements of a hierarchy, written out from its top. A module's nets that aren't connected outside
-- get the next numbers, in the order of its plan; then its elements and instances go in text order, an instance in its place.
use Rattle.std.specs.Prelude.{ℕ, zero, suc, ◌+◌, ◌-◌, Bool, true, false, List, [], ◌∷◌, ◌++◌, map, length, Option, Some, None, slice_get, slice_index_or, nat_eq, nat_le, if◌then◌else◌}
use Rattle.std.specs.List.{flat_map, range_with_len, zip}
use Rattle.std.specs.Option.{option_map, option_map_or}
use Rattle.v_tree.specs.declared.locations.Location.{Location}
use Rattle.v_tree.specs.declared.expressions.RangeBounds.{RangeBounds}
use Rattle.delay_rule.specs.declared.delays.Delays.{Delays}
use Rattle.flat_net.specs.declared.parts.Element.{Element}
use Rattle.flat_net.specs.declared.parts.Find.{Find}
use Rattle.item_parts.specs.Widths.{range_width}
use Rattle.flat_names.specs.Spelling.{Own, spelling}
use Rattle.flat_names.specs.Spelling.{Written as WrittenOwn, Unnamed as UnnamedOwn}
use Rattle.netlist_plan.specs.declared.plan.OwnName.{OwnName}
use Rattle.netlist_plan.specs.declared.plan.OwnName.TheVariants.{Written, Unnamed}
use Rattle.netlist_plan.specs.declared.plan.ElementName.{ElementName}
use Rattle.netlist_plan.specs.declared.plan.ElementName.TheVariants.{Gate, Half, Bit}
use Rattle.netlist_plan.specs.declared.plan.PlanElement.{PlanElement}
use Rattle.netlist_plan.specs.declared.plan.PlanNet.{PlanNet}
use Rattle.netlist_plan.specs.declared.plan.PlanStep.{PlanStep}
use Rattle.netlist_plan.specs.declared.plan.PlanStep.TheVariants.{Element as ElementStep, Instance as InstanceStep}
use Rattle.netlist_plan.specs.declared.plan.PortBits.{PortBits}
use Rattle.netlist_plan.specs.declared.plan.SwitchTerminal.{SwitchTerminal}
use Rattle.netlist_plan.specs.declared.plan.ModulePlan.{ModulePlan}
use Rattle.netlist_plan.specs.declared.claims.NetClaim.{NetClaim}
use Rattle.netlist_plan.specs.Additions.{Additions, joined, nothing}

-- the plans of modules by index, and the delays of a module's items by index, those of no item being none
pub record Hierarchy : Type 0 where
  pub plans : List ModulePlan
  pub delays : ℕ → Option ℕ → Delays

-- an instance: the index of its module, its path from the top inwards, the number of each bit of its module's nets, and for
-- each whether it is connected outside
pub record Place : Type 0 where
  pub master : ℕ
  pub path : List Own
  pub numbers : List ℕ
  pub bound : List Bool

-- ---- names

abbrev pub own_name : OwnName → Own
own_name (Written name) = WrittenOwn name
own_name (Unnamed number) = UnnamedOwn number

abbrev pub flat_name : List Own → Own → Option ℕ → List ℕ
flat_name path own index = spelling (record { path = path; own = own; index = index })

-- the halves of a complementary switch are `n` and `p` inside of it
abbrev pub half_name : Bool → List ℕ
half_name true = 110 ∷ []
half_name false = 112 ∷ []

abbrev pub element_name : List Own → ElementName → List ℕ
element_name path (Gate own) = flat_name path (own_name own) None
element_name path (Half own on_one) = flat_name (path ++ own_name own ∷ []) (WrittenOwn (half_name on_one)) None
element_name path (Bit number index) = flat_name path (UnnamedOwn number) (Some index)

-- the index of a bit by its place from the left; a scalar's bit has none
abbrev pub bit_index : Option RangeBounds → ℕ → Option ℕ
bit_index None place = None
bit_index (Some range) place = Some (if nat_le range.right range.left then range.left - place else range.left + place)

-- ---- nets

-- the numbers of bits in an instance
abbrev pub numbers_of : List ℕ → List ℕ → List ℕ
numbers_of numbers bits = map (λ bit. slice_index_or numbers bit 0) bits

-- the bits of a net of the plan, each with its place from the left
abbrev pub net_places : PlanNet → List ℕ
net_places net = range_with_len 0 (range_width net.range)

-- the name of a bit, where it isn't connected outside
abbrev pub new_name : Place → PlanNet → ℕ → List (List ℕ)
new_name at net place =
    if slice_index_or at.bound (net.first + place) true then []
    else flat_name at.path (own_name net.name) (bit_index net.range place) ∷ []

abbrev pub new_names : Place → PlanNet → List (List ℕ)
new_names at net = flat_map (new_name at net) (net_places net)

-- what the declaration of a net says of its bits
abbrev pub net_claim : Hierarchy → Place → PlanNet → NetClaim
net_claim h at net = record { class = net.class; delays = option_map (λ item. h.delays at.master (Some item)) net.delay }

abbrev pub net_claims : Hierarchy → Place → PlanNet → List (ℕ × NetClaim)
net_claims h at net = map (λ place. (slice_index_or at.numbers (net.first + place) 0, net_claim h at net)) (net_places net)

-- the name of a net finds its bits from the left, and the name of each bit of a vector finds that
abbrev pub bit_find : Place → PlanNet → ℕ → Find
bit_find at net place = record {
  name = flat_name at.path (own_name net.name) (bit_index net.range place);
  nets = slice_index_or at.numbers (net.first + place) 0 ∷ [];
}

abbrev pub bit_finds : Place → PlanNet → Option RangeBounds → List Find
bit_finds at net None = []
bit_finds at net (Some range) = map (bit_find at net) (net_places net)

abbrev pub net_finds : Place → PlanNet → List Find
net_finds at net =
    record {
      name = flat_name at.path (own_name net.name) None;
      nets = map (λ place. slice_index_or at.numbers (net.first + place) 0) (net_places net);
    } ∷ bit_finds at net net.range

-- the net at a terminal of a bidirectional switch
abbrev pub terminal_number : Place → SwitchTerminal → ℕ × Location
terminal_number at terminal = (slice_index_or at.numbers terminal.bit 0, terminal.location)

-- what the nets of an instance add
abbrev pub nets_additions : Hierarchy → Place → ModulePlan → Additions
nets_additions h at plan = record {
  net_names = flat_map (new_names at) plan.nets;
  claims = flat_map (net_claims h at) plan.nets;
  elements = [];
  element_names = [];
  resistive = [];
  finds = flat_map (net_finds at) plan.nets;
  terminals = map (terminal_number at) plan.terminals;
}

-- ---- elements

abbrev pub end_numbers : List ℕ → ℕ × ℕ → ℕ × ℕ
end_numbers numbers ends = (slice_index_or numbers ends.0 0, slice_index_or numbers ends.1 0)

abbrev pub flat_element : Hierarchy → Place → PlanElement → Element
flat_element h at e = record {
  kind = e.kind;
  s0 = e.strengths.zero;
  s1 = e.strengths.one;
  delays = h.delays at.master e.item;
  outs = numbers_of at.numbers e.outs;
  ins = numbers_of at.numbers e.ins;
  ends = option_map (end_numbers at.numbers) e.ends;
}

abbrev pub element_additions : Hierarchy → Place → PlanElement → Additions
element_additions h at e = record nothing {
  elements = flat_element h at e ∷ [];
  element_names = element_name at.path e.name ∷ [];
  resistive = e.resistive ∷ [];
}

-- ---- instances

-- bits of an inner module with the numbers of the bits outside that are connected to them
abbrev pub port_numbers : List ℕ → List PortBits → PortBits → List (ℕ × ℕ)
port_numbers numbers ports c =
    option_map_or (λ port. zip port.bits (numbers_of numbers c.bits)) (slice_get ports c.port) []

abbrev pub bound_numbers : List ℕ → List PortBits → List PortBits → List (ℕ × ℕ)
bound_numbers numbers ports connections = flat_map (port_numbers numbers ports) connections

-- the number outside of a bit, where it is connected
abbrev pub number_outside : List (ℕ × ℕ) → ℕ → Option ℕ
number_outside [] bit = None
number_outside ((other, number) ∷ rest) bit = if nat_eq other bit then Some number else number_outside rest bit

abbrev pub is_bound : List (ℕ × ℕ) → ℕ → Bool
is_bound outside bit = option_map_or (λ number. true) (number_outside outside bit) false

-- the number of each of these bits: the one outside, else the next
abbrev pub numbers_from : List (ℕ × ℕ) → ℕ → List ℕ → List ℕ
numbers_from outside next [] = []
numbers_from outside next (bit ∷ bits) =
    option_map_or (λ number. number) (number_outside outside bit) next
    ∷ numbers_from outside (if is_bound outside bit then next else next + 1) bits

abbrev pub no_plan : ModulePlan
no_plan = record { nets = []; ports = []; steps = []; terminals = [] }

abbrev pub plan_at : Hierarchy → ℕ → ModulePlan
plan_at h master = slice_index_or h.plans master no_plan

-- how many bits a module's nets have
abbrev pub bit_count : List PlanNet → ℕ
bit_count [] = 0
bit_count (net ∷ nets) = range_width net.range + bit_count nets

-- the place of an instance, where the next net gets a number
abbrev pub place_of : Hierarchy → ℕ → List Own → List (ℕ × ℕ) → ℕ → Place
place_of h master path outside next =
    let bits = range_with_len 0 (bit_count (plan_at h master).nets) in
    record { master = master; path = path; numbers = numbers_from outside next bits; bound = map (is_bound outside) bits }

-- what an instance of a module adds, by its index, its path, its bits that are connected, and the next number of a net
abbrev pub Inner : Type 0
Inner = ℕ → List Own → List (ℕ × ℕ) → ℕ → Additions

abbrev pub step_additions : Inner → Hierarchy → Place → ℕ → PlanStep → Additions
step_additions inner h at next (ElementStep e) = element_additions h at e
step_additions inner h at next (InstanceStep i) =
    inner i.master (at.path ++ WrittenOwn i.name ∷ []) (bound_numbers at.numbers (plan_at h i.master).ports i.connections) next

-- what steps add, one after the other
abbrev pub steps_additions : Inner → Hierarchy → Place → ℕ → List PlanStep → Additions
steps_additions inner h at next [] = nothing
steps_additions inner h at next (step ∷ steps) =
    let first = step_additions inner h at next step in
    joined first (steps_additions inner h at (next + length first.net_names) steps)

-- an instance with its nets, and down to so many levels with the instances in it
unfoldable pub additions : Hierarchy → ℕ → Inner
additions h zero master path outside next = nothing
additions h (suc levels) master path outside next =
    let at = place_of h master path outside next in
    let plan = plan_at h master in
    let own = nets_additions h at plan in
    joined own (steps_additions (additions h levels) h at (next + length own.net_names) plan.steps)

-- the top with all that is in it, at most 64 levels deep
abbrev pub flattening : Hierarchy → ℕ → Additions
flattening h top = additions h 64 top [] [] 0
