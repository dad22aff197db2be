-- The rules on instances: the places at which an instance, or an item of instances, breaks each of them.
use Rattle.std.specs.Prelude.{ℕ, Bool, false, ◌&&◌, ◌||◌, not, List, [], ◌∷◌, ◌++◌, length, nat_eq, nat_lt, Option, None, Some}
use Rattle.std.specs.List.{flat_map, list_any}
use Rattle.std.specs.Option.{is_none}
use Rattle.name_table.specs.Names.{is_among}
use Rattle.v_tree.specs.declared.locations.Location.{Location}
use Rattle.v_tree.specs.declared.locations.Name.{Name}
use Rattle.v_tree.specs.declared.drives.DelaySpec.{DelaySpec}
use Rattle.v_tree.specs.declared.drives.DriveStrength.{DriveStrength}
use Rattle.v_tree.specs.declared.gates.Connection.{Connection}
use Rattle.v_tree.specs.declared.gates.Connections.{Connections}
use Rattle.v_tree.specs.declared.gates.Connections.TheVariants.{ByOrder, ByName}
use Rattle.v_tree.specs.declared.gates.Inst.{Inst}
use Rattle.v_tree.specs.declared.gates.Instance.{Instance}
use Rattle.module_scope.specs.declared.scopes.Scope.{Scope}
use Rattle.module_scope.specs.Places.{place_if}
use Rattle.module_ports.specs.Ports.{Port, names_of}
use Rattle.item_parts.specs.Delays.{delay_places}
use Rattle.item_parts.specs.Literals.{has_literal}
use Rattle.item_parts.specs.Misfits.{width_places}
use Rattle.instance_rules.specs.Links.MasterPorts.{ModulePorts, PrimitivePorts, UnknownPorts}
use Rattle.instance_rules.specs.Links.{MasterPorts, Link, connections_by_place, is_output_at, links, width_at}

-- ---- widths: an expression hasn't the width of its port, or a literal without size stands in a concatenation (IEEE 1364-2005, 12.3.9.2)

abbrev pub link_widths : Scope → MasterPorts → Link → List Location
link_widths scope ports l = width_places scope (width_at ports l.port) l.place l.value

abbrev pub inst_widths : Scope → MasterPorts → Inst → List Location
inst_widths scope ports inst = flat_map (link_widths scope ports) (links ports inst.connections)

-- ---- literals: a literal stands in the expression at an output or inout port

abbrev pub link_literals : MasterPorts → Link → List Location
link_literals ports l = place_if (is_output_at ports l.port && has_literal l.value) l.place

abbrev pub inst_literals : MasterPorts → Inst → List Location
inst_literals ports inst = flat_map (link_literals ports) (links ports inst.connections)

-- ---- counts: a primitive's instance hasn't one connection by place for each port, or a module's has no name (IEEE 1364-2005, 8.6 and 12.1.2)

-- the location of a name, where there is one, else another
abbrev pub name_or : Option Name → Location → Location
name_or None other = other
name_or (Some name) other = name.location

-- the name of an instance, or the `(` where it has none
abbrev pub inst_place : Inst → Location
inst_place inst = name_or inst.name inst.paren

-- so many connections by place, and none of them empty
abbrev pub connects_all : ℕ → Connections → Bool
connects_all count (ByOrder values) =
    nat_eq (length (connections_by_place values)) count && not (list_any is_none (connections_by_place values))
connects_all count (ByName connections) = false

abbrev pub inst_counts : MasterPorts → Inst → List Location
inst_counts (ModulePorts ports) inst = place_if (is_none inst.name) inst.paren
inst_counts (PrimitivePorts count) inst = place_if (not (connects_all count inst.connections)) (inst_place inst)
inst_counts UnknownPorts inst = []

-- ---- connections: more by place than ports, or a named one of no port, or of a port that an earlier one connects (IEEE 1364-2005, 12.3.6)

-- named connections, behind those of these names
abbrev pub named_places : List Port → List (List ℕ) → List Connection → List Location
named_places ports before [] = []
named_places ports before (c ∷ connections) =
    place_if (not (is_among c.port.text (names_of ports)) || is_among c.port.text before) c.location
    ++ named_places ports (before ++ c.port.text ∷ []) connections

-- the connections of a module's instance whose `(` is this
abbrev pub module_connections : List Port → Location → Connections → List Location
module_connections ports paren (ByOrder values) = place_if (nat_lt (length ports) (length (connections_by_place values))) paren
module_connections ports paren (ByName connections) = named_places ports [] connections

abbrev pub inst_connections : MasterPorts → Inst → List Location
inst_connections (ModulePorts ports) inst = module_connections ports inst.paren inst.connections
inst_connections (PrimitivePorts count) inst = []
inst_connections UnknownPorts inst = []

-- ---- delays: instances of a module with a drive or a delay, or of a primitive with more than two delays (IEEE 1364-2005, 8.6)

-- the `(` of a drive, else the `#` of a delay
abbrev pub drive_or_delay : Option DriveStrength → Option DelaySpec → List Location
drive_or_delay (Some drive) delay = drive.location ∷ []
drive_or_delay None (Some delay) = delay.location ∷ []
drive_or_delay None None = []

abbrev pub item_delays : MasterPorts → Instance → List Location
item_delays (ModulePorts ports) i = drive_or_delay i.drive i.delay
item_delays (PrimitivePorts count) i = delay_places 2 i.delay
item_delays UnknownPorts i = []
