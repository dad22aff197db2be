-- The places of all reached modules at which a rule on their items is broken.
use Rattle.std.specs.Prelude.{ℕ, Bool, List, [], ◌++◌, length, map}
use Rattle.std.specs.List.{flat_map, items_where_true}
use Rattle.v_tree.specs.declared.locations.Location.{Location}
use Rattle.v_tree.specs.declared.directives.Directive.{Directive}
use Rattle.v_tree.specs.declared.modules.Module.{Module}
use Rattle.v_tree.specs.declared.modules.File.{File}
use Rattle.v_tree.specs.declared.primitives.UdpDecl.{UdpDecl}
use Rattle.rule_places.specs.Places.{first_place}
use Rattle.module_scope.specs.declared.scopes.Scope.{Scope}
use Rattle.module_graph.specs.Graph.{master_of, module_names, udp_names}
use Rattle.module_ports.specs.Ports.{Port, ports_of}
use Rattle.primitive_rules.specs.Ports.{header_names}
use Rattle.gate_rules.specs.Places.{gate_widths, gate_counts, gate_delays, gate_drives, gate_literals}
use Rattle.instance_rules.specs.Items.{InstanceRule}
use Rattle.instance_rules.specs.Items.InstanceRule.{Widths, Counts, Delays, Drives, Connections, Literals}
use Rattle.instance_rules.specs.Places.{Masters, breaking_places}
use Rattle.netlist_scopes.specs.Reached.{scope_under}
use Rattle.instance_rules.specs.declared.places.ItemPlaces.{ItemPlaces}

-- the ports of each module under the directives before it
abbrev pub port_tables : List Directive → List Module → List (List Port)
port_tables directives modules = map (λ m. ports_of (scope_under directives m) m) modules

-- how many ports each primitive has
abbrev pub port_counts : List UdpDecl → List ℕ
port_counts udps = map (λ u. length (header_names u.ports)) udps

-- what names mean in a file, with the ports of its modules and primitives
abbrev pub masters_of : File → Masters
masters_of file = record {
  of = master_of (module_names file.modules) (udp_names file.udps);
  tables = port_tables file.directives file.modules;
  counts = port_counts file.udps;
}

-- the places of a module's gates, assignments and declarations
abbrev pub gate_part : InstanceRule → Scope → Module → List Location
gate_part Widths scope m = gate_widths scope m
gate_part Counts scope m = gate_counts m
gate_part Delays scope m = gate_delays m
gate_part Drives scope m = gate_drives m
gate_part Connections scope m = []
gate_part Literals scope m = gate_literals m

-- the same with those of its instances, given its scope and what names mean
abbrev pub places_under : InstanceRule → Scope → Masters → Module → List Location
places_under rule scope masters m = gate_part rule scope m ++ breaking_places rule scope masters m

-- the places of a module of a file
abbrev pub module_places : InstanceRule → File → Module → List Location
module_places rule file m = places_under rule (scope_under file.directives m) (masters_of file) m

-- the places of all modules that are reached, module by module
abbrev pub reached_places : InstanceRule → File → List Bool → List Location
reached_places rule file reached = flat_map (module_places rule file) (items_where_true reached file.modules)

-- the first place of each rule
abbrev pub item_places : File → List Bool → ItemPlaces
item_places file reached = record {
  widths = first_place (reached_places Widths file reached);
  counts = first_place (reached_places Counts file reached);
  delays = first_place (reached_places Delays file reached);
  drives = first_place (reached_places Drives file reached);
  connections = first_place (reached_places Connections file reached);
  literals = first_place (reached_places Literals file reached);
}
