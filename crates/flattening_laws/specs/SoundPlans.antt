-- When the plan of a module is sound: what the rules on a netlist give of it, and what its flattening needs.
use Rattle.std.specs.Prelude.{◌≡◌, ℕ, ◌+◌, ◌<◌, ◌≤◌, ◌^◌, Bool, List, [], ◌∷◌, ◌++◌, length, map, Option, Some, None, slice_get}
use Rattle.std.specs.Option.{is_some}
use Rattle.std.specs.List.{All, Contains, flat_map}
use Rattle.v_tree.specs.declared.expressions.RangeBounds.{RangeBounds}
use Rattle.udp_table.specs.Primitive.{Primitive}
use Rattle.flat_net.specs.Lists.{AreDistinct}
use Rattle.flat_net.specs.Elements.{HasPinsOf, end_nets, joins_ends}
use Rattle.flat_net.specs.Islands.{HasCharge}
use Rattle.item_parts.specs.Widths.{range_width}
use Rattle.flat_names.specs.Spelling.{IsOwn, IsText}
use Rattle.netlist_plan.specs.declared.plan.OwnName.{OwnName}
use Rattle.netlist_plan.specs.declared.plan.OwnName.TheVariants.{Written}
use Rattle.netlist_plan.specs.declared.plan.ElementName.{ElementName}
use Rattle.netlist_plan.specs.declared.plan.ElementName.TheVariants.{Gate, Half, Bit}
use Rattle.netlist_plan.specs.declared.plan.PlanElement.{PlanElement}
use Rattle.netlist_plan.specs.declared.plan.PlanInstance.{PlanInstance}
use Rattle.netlist_plan.specs.declared.plan.PlanNet.{PlanNet}
use Rattle.netlist_plan.specs.declared.plan.PlanStep.{PlanStep}
use Rattle.netlist_plan.specs.declared.plan.PlanStep.TheVariants.{Element as ElementStep, Instance as InstanceStep}
use Rattle.netlist_plan.specs.declared.plan.PortBits.{PortBits}
use Rattle.netlist_plan.specs.declared.plan.ModulePlan.{ModulePlan}
use Rattle.netlist_plan.specs.Flattening.{bit_count, own_name}

-- ---- nets

abbrev pub IsRange : Option RangeBounds → Type 0
IsRange None = Unit {0}
IsRange (Some range) = (range.left < 2 ^ 32) × (range.right < 2 ^ 32)

-- the first bit of each net follows the last one of the net before it
abbrev pub AreInRow : ℕ → List PlanNet → Type 0
AreInRow first [] = Unit {0}
AreInRow first (net ∷ nets) = (net.first ≡ first) × AreInRow (first + range_width net.range) nets

-- a net has the name of a net, numbers for its bits, and a charge that fits its kind
pub record IsPlanNet (net : PlanNet) : Type 0 where
  pub name : IsOwn (own_name net.name)
  pub range : IsRange net.range
  pub charge : HasCharge net.class.kind net.class.charge

-- ---- elements

abbrev pub IsElementName : ElementName → Type 0
IsElementName (Gate own) = IsOwn (own_name own)
IsElementName (Half own on_one) = IsOwn (own_name own)
IsElementName (Bit number index) = (number < 2 ^ 32) × (index < 2 ^ 32)

-- an element of a module with so many bits, where these are the primitives
pub record IsPlanElement (udps : List Primitive) (bits : ℕ) (e : PlanElement) : Type 0 where
  pub name : IsElementName e.name
  pub strengths : (e.strengths.zero ≤ 7) × (e.strengths.one ≤ 7)
  pub pins : HasPinsOf udps e.kind (length e.outs) (length e.ins)
  pub switch : is_some e.ends ≡ joins_ends e.kind
  pub few : length (end_nets e.ends ++ e.outs ++ e.ins) < 2 ^ 32
  pub within : All (λ bit. bit < bits) (end_nets e.ends ++ e.outs ++ e.ins)

-- ---- instances

-- the bits of a connection are of the module with so many
abbrev pub IsConnection : ℕ → PortBits → Type 0
IsConnection bits c = All (λ bit. bit < bits) c.bits

-- an instance in a module with so many bits, which connects each port once
pub record IsPlanInstance (bits : ℕ) (i : PlanInstance) : Type 0 where
  pub name : IsText i.name
  pub connections : All (IsConnection bits) i.connections
  pub once : AreDistinct (map (λ c. c.port) i.connections)

abbrev pub IsPlanStep : List Primitive → ℕ → PlanStep → Type 0
IsPlanStep udps bits (ElementStep e) = IsPlanElement udps bits e
IsPlanStep udps bits (InstanceStep i) = IsPlanInstance bits i

-- ---- names

-- an instance has its name among those of the elements
abbrev pub step_name : PlanStep → ElementName
step_name (ElementStep e) = e.name
step_name (InstanceStep i) = Gate (Written i.name)

-- no gate with halves has the name of another element or of an instance
abbrev pub AreNotHalved : List ElementName → Type 0
AreNotHalved names =
    (i j : ℕ) (own : OwnName) (on_one : Bool) → slice_get names i ≡ Some (Half own on_one) → slice_get names j ≡ Some (Gate own) → ⊥

-- ---- bidirectional switches

-- the ends of an element are terminals of these bits
abbrev pub HasTerminals : List ℕ → PlanStep → Type 0
HasTerminals bits (ElementStep e) = All (Contains bits) (end_nets e.ends)
HasTerminals bits (InstanceStep i) = Unit {0}

-- ---- modules

-- the bits of ports, port by port
abbrev pub ports_bits : List PortBits → List ℕ
ports_bits ports = flat_map (λ port. port.bits) ports

-- the plan of a module, where these are the primitives
pub record IsSoundPlan (udps : List Primitive) (p : ModulePlan) : Type 0 where
  pub row : AreInRow 0 p.nets
  pub nets : All IsPlanNet p.nets
  pub net_names : AreDistinct (map (λ net. net.name) p.nets)
  pub ports : All (λ bit. bit < bit_count p.nets) (ports_bits p.ports)
  pub apart : AreDistinct (ports_bits p.ports)
  pub steps : All (IsPlanStep udps (bit_count p.nets)) p.steps
  pub step_names : AreDistinct (map step_name p.steps)
  pub halves : AreNotHalved (map step_name p.steps)
  pub terminals : All (λ terminal. terminal.bit < bit_count p.nets) p.terminals
  pub ends : All (HasTerminals (map (λ terminal. terminal.bit) p.terminals)) p.steps
