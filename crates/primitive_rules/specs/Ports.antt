-- What the declaration of a user-defined primitive says of its ports (IEEE 1364-2005, 8.1.1 to 8.1.3), in the order of the text.
use Rattle.std.specs.Prelude.{ℕ, Bool, true, false, List, [], ◌∷◌, ◌++◌, map, Option, Some, None, if◌then◌else◌}
use Rattle.std.specs.List.{flat_map}
use Rattle.v_tree.specs.declared.locations.Name.{Name}
use Rattle.v_tree.specs.declared.primitives.Lit.{Lit}
use Rattle.v_tree.specs.declared.primitives.UdpPorts.{UdpPorts}
use Rattle.v_tree.specs.declared.primitives.UdpPorts.TheVariants.{Names, Declared}
use Rattle.v_tree.specs.declared.primitives.UdpItem.{UdpItem}
use Rattle.v_tree.specs.declared.primitives.UdpItem.TheVariants.{Output, Input, Reg}
use Rattle.v_tree.specs.declared.primitives.UdpInitial.{UdpInitial}
use Rattle.v_tree.specs.declared.primitives.UdpDecl.{UdpDecl}

-- ---- the header

-- the names of the header
abbrev pub header_names : UdpPorts → List Name
header_names (Names names) = names
header_names (Declared is_reg output start inputs) = output ∷ map (λ i. i.name) inputs

-- the text of the first name; a header has one name at least
abbrev pub first_text : List Name → List ℕ
first_text [] = []
first_text (name ∷ names) = name.text

-- the name of the first port
abbrev pub first_port : UdpPorts → List ℕ
first_port ports = first_text (header_names ports)

-- ---- directions

-- a header that declares its ports gives each name of it a direction
abbrev pub header_directions : UdpPorts → List Name
header_directions (Names names) = []
header_directions (Declared is_reg output start inputs) = output ∷ map (λ i. i.name) inputs

abbrev pub item_directions : UdpItem → List Name
item_directions (Output location is_reg name start) = name ∷ []
item_directions (Input location names) = names
item_directions (Reg location name) = []

-- the names that stand behind a direction, each as often as it does
abbrev pub directions : UdpDecl → List Name
directions udp = header_directions udp.ports ++ flat_map item_directions udp.items

abbrev pub header_outputs : UdpPorts → List Name
header_outputs (Names names) = []
header_outputs (Declared is_reg output start inputs) = output ∷ []

abbrev pub item_outputs : UdpItem → List Name
item_outputs (Output location is_reg name start) = name ∷ []
item_outputs (Input location names) = []
item_outputs (Reg location name) = []

-- the names that are declared as outputs
abbrev pub outputs : UdpDecl → List Name
outputs udp = header_outputs udp.ports ++ flat_map item_outputs udp.items

-- ---- the state

abbrev pub name_if : Bool → Name → List Name
name_if written name = if written then name ∷ [] else []

abbrev pub header_regs : UdpPorts → List Name
header_regs (Names names) = []
header_regs (Declared is_reg output start inputs) = name_if is_reg output

abbrev pub item_regs : UdpItem → List Name
item_regs (Output location is_reg name start) = name_if is_reg name
item_regs (Input location names) = []
item_regs (Reg location name) = name ∷ []

-- the names that are declared as `reg`; a `reg` at an output is one of its name
abbrev pub regs : UdpDecl → List Name
regs udp = header_regs udp.ports ++ flat_map item_regs udp.items

-- an `initial`: its name and its literal
pub record Start : Type 0 where
  pub name : Name
  pub value : Lit

abbrev pub start_if : Name → Option Lit → List Start
start_if name None = []
start_if name (Some value) = record { name = name; value = value } ∷ []

abbrev pub header_starts : UdpPorts → List Start
header_starts (Names names) = []
header_starts (Declared is_reg output start inputs) = start_if output start

abbrev pub item_starts : UdpItem → List Start
item_starts (Output location is_reg name start) = start_if name start
item_starts (Input location names) = []
item_starts (Reg location name) = []

abbrev pub initial_starts : Option UdpInitial → List Start
initial_starts None = []
initial_starts (Some i) = record { name = i.name; value = i.value } ∷ []

-- the start values that are written; a `=` at an output is an `initial` of its name
abbrev pub starts : UdpDecl → List Start
starts udp = header_starts udp.ports ++ flat_map item_starts udp.items ++ initial_starts udp.initial
