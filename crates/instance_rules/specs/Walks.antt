-- For the code alone: the places of each rule at the levels of an item.
use Rattle.std.specs.Prelude.{◌≡◌, ℕ, List, [], slice_get, Option, None, Some}
use Rattle.std.specs.List.{flat_map}
use Rattle.v_tree.specs.declared.locations.Location.{Location}
use Rattle.v_tree.specs.declared.gates.Inst.{Inst}
use Rattle.rule_places.specs.Places.{earliest, first_place}
use Rattle.module_scope.specs.declared.scopes.Scope.{Scope}
use Rattle.module_graph.specs.declared.references.Master.{Master}
use Rattle.module_graph.specs.declared.references.Master.TheVariants.{Unknown}
use Rattle.module_graph.specs.declared.references.Reference.{Reference}
use Rattle.instance_rules.specs.declared.places.ItemPlaces.{ItemPlaces}
use Rattle.instance_rules.specs.Links.{MasterPorts, Link}
use Rattle.instance_rules.specs.Items.{InstanceRule}
use Rattle.instance_rules.specs.Items.InstanceRule.{Widths, Counts, Delays, Drives, Connections, Literals}
use Rattle.instance_rules.specs.Rules.{inst_connections, inst_counts, inst_literals, inst_widths, link_literals, link_widths}

-- no rule is broken
abbrev pub no_places : ItemPlaces
no_places = record { widths = None; counts = None; delays = None; drives = None; connections = None; literals = None }

-- for each rule the earlier of two places that may be there
abbrev pub earliest_places : ItemPlaces → ItemPlaces → ItemPlaces
earliest_places a b = record {
  widths = earliest a.widths b.widths;
  counts = earliest a.counts b.counts;
  delays = earliest a.delays b.delays;
  drives = earliest a.drives b.drives;
  connections = earliest a.connections b.connections;
  literals = earliest a.literals b.literals;
}

-- the place of a rule
abbrev pub place_of : InstanceRule → ItemPlaces → Option Location
place_of Widths p = p.widths
place_of Counts p = p.counts
place_of Delays p = p.delays
place_of Drives p = p.drives
place_of Connections p = p.connections
place_of Literals p = p.literals

-- the places of an expression that is connected
abbrev pub link_places : InstanceRule → Scope → MasterPorts → Link → List Location
link_places Widths scope ports l = link_widths scope ports l
link_places Counts scope ports l = []
link_places Delays scope ports l = []
link_places Drives scope ports l = []
link_places Connections scope ports l = []
link_places Literals scope ports l = link_literals ports l

-- the places of one instance
abbrev pub inst_places : InstanceRule → Scope → MasterPorts → Inst → List Location
inst_places Widths scope ports inst = inst_widths scope ports inst
inst_places Counts scope ports inst = inst_counts ports inst
inst_places Delays scope ports inst = []
inst_places Drives scope ports inst = []
inst_places Connections scope ports inst = inst_connections ports inst
inst_places Literals scope ports inst = inst_literals ports inst

-- the places of expressions that are connected
abbrev pub links_places : InstanceRule → Scope → MasterPorts → List Link → List Location
links_places rule scope ports links = flat_map (link_places rule scope ports) links

-- each place is the first of a rule's places
abbrev pub AreFirst : (InstanceRule → List Location) → ItemPlaces → Type 0
AreFirst places p = (rule : InstanceRule) → first_place (places rule) ≡ place_of rule p

abbrev pub master_in : Option Reference → Master
master_in None = Unknown
master_in (Some reference) = reference.master

-- the master of the reference at an index
abbrev pub master_at : List Reference → ℕ → Master
master_at references index = master_in (slice_get references index)
