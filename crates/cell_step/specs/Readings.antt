-- What a cell reads in a pass, and the cells of a netlist by their numbers.
use Rattle.std.specs.Prelude.{◌≡◌, ℕ, ◌<◌, false, IsTrue, List, [], length, All, Option, Some, None, slice_get, slice_index_or}
use Rattle.std.specs.Option.{IsSomeAnd}
use Prim.Native.Nat.{zero-le, suc-le-suc}
use Rattle.level_range.specs.declared.range.Logic.TheVariants.{X, Z}
use Rattle.level_range.specs.declared.range.Conduct.{Conduct}
use Rattle.level_range.specs.Signal.{Signal}
use Rattle.delay_rule.specs.declared.delays.Delays.{Delays}
use Rattle.udp_table.specs.Primitive.{Primitive}
use Rattle.flat_net.specs.declared.kinds.ElementKind.TheVariants.{Constant}
use Rattle.flat_net.specs.declared.kinds.NetKind.TheVariants.{Wire}
use Rattle.flat_net.specs.declared.parts.NetPart.{NetPart}
use Rattle.flat_net.specs.declared.parts.Element.{Element}
use Rattle.flat_net.specs.declared.parts.Drive.{Drive}
use Rattle.flat_net.specs.declared.parts.Island.{Island}
use Rattle.flat_net.specs.declared.parts.Parts.{Parts}
use Rattle.flat_net.specs.Elements.{joins_ends}

-- what cells read: what an element drives at an output pin, what a bidirectional switch conducts, what is seen of a net,
-- and the input in force at a net
pub record Readings : Type 0 where
  pub drive : ℕ → ℕ → Signal
  pub conduct : ℕ → Conduct
  pub seen : ℕ → Signal
  pub input : ℕ → Signal

-- no delay is given
abbrev pub no_delays : Delays
no_delays = record { count = 0; d = []; few = zero-le; short = λ k. suc-le-suc zero-le }

-- these stand for a part where the netlist has none of the number
abbrev pub no_element : Element
no_element = record { kind = Constant Z; s0 = 0; s1 = 0; delays = no_delays; outs = []; ins = []; ends = None }

abbrev pub no_net : NetPart
no_net = record { kind = Wire; charge = 0; delays = no_delays; island = 0; place = 0 }

abbrev pub no_island : Island
no_island = record { nets = []; drives = []; links = []; shape = record { kinds = []; charge = []; links = [] } }

abbrev pub no_primitive : Primitive
no_primitive = record { inputs = 0; sequential = false; start = X; rows = [] }

-- an element, a net, an island and a primitive of a netlist by their numbers
abbrev pub element_at : Parts → ℕ → Element
element_at parts number = slice_index_or parts.elements number no_element

abbrev pub net_at : Parts → ℕ → NetPart
net_at parts number = slice_index_or parts.nets number no_net

abbrev pub island_at : Parts → ℕ → Island
island_at parts number = slice_index_or parts.islands number no_island

abbrev pub primitive_at : Parts → ℕ → Primitive
primitive_at parts number = slice_index_or parts.udps number no_primitive

-- the element has the output pin
abbrev pub IsOutput : Parts → ℕ → ℕ → Type 0
IsOutput parts element pin = IsSomeAnd (slice_get parts.elements element) (λ e. pin < length e.outs)

-- the element is a bidirectional switch
abbrev pub IsSwitch : Parts → ℕ → Type 0
IsSwitch parts element = IsSomeAnd (slice_get parts.elements element) (λ e. IsTrue (joins_ends e.kind))

-- the nets, the drives and the switches are some of the netlist's
abbrev pub AreNetsOf : Parts → List ℕ → Type 0
AreNetsOf parts nets = All (λ net. net < length parts.nets) nets

abbrev pub AreDrivesOf : Parts → List Drive → Type 0
AreDrivesOf parts drives = All (λ (drive : Drive). IsOutput parts drive.element drive.pin) drives

abbrev pub AreSwitchesOf : Parts → List ℕ → Type 0
AreSwitchesOf parts links = All (IsSwitch parts) links

-- an element reads the nets of its input pins
abbrev pub AgreeAtElement : Element → Readings → Readings → Type 0
AgreeAtElement e r s = All (λ net. r.seen net ≡ s.seen net) e.ins

-- an island reads the output pins that drive its nets, its switches, and the inputs at its nets
pub record AgreeAtIsland (island : Island) (r s : Readings) : Type 0 where
  pub drives : All (λ (drive : Drive). r.drive drive.element drive.pin ≡ s.drive drive.element drive.pin) island.drives
  pub links : All (λ link. r.conduct link ≡ s.conduct link) island.links
  pub inputs : All (λ net. r.input net ≡ s.input net) island.nets
