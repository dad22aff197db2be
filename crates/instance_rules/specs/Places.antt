-- The places of a module at which its instances break a rule, and the first of them.
use Rattle.std.specs.Prelude.{ℕ, List, Option, None, Some}
use Rattle.std.specs.List.{filter_map, flat_map}
use Rattle.v_tree.specs.declared.locations.Location.{Location}
use Rattle.v_tree.specs.declared.gates.Instance.{Instance}
use Rattle.v_tree.specs.declared.modules.Item.{Item}
use Rattle.v_tree.specs.declared.modules.Item.TheVariants as item
use Rattle.v_tree.specs.declared.modules.Module.{Module}
use Rattle.rule_places.specs.Places.{first_place}
use Rattle.module_scope.specs.declared.scopes.Scope.{Scope}
use Rattle.module_graph.specs.declared.references.Master.{Master}
use Rattle.module_ports.specs.Ports.{Port}
use Rattle.instance_rules.specs.declared.places.ItemPlaces.{ItemPlaces}
use Rattle.instance_rules.specs.Links.{ports_of}
use Rattle.instance_rules.specs.Items.{InstanceRule, item_places}
use Rattle.instance_rules.specs.Items.InstanceRule.{Widths, Counts, Delays, Drives, Connections, Literals}

-- the instances of an item, where it has some
abbrev pub instance_of : Item → Option Instance
instance_of (item.Instances i) = Some i
instance_of (item.Ports d) = None
instance_of (item.Nets d) = None
instance_of (item.Trireg d) = None
instance_of (item.Assign a) = None
instance_of (item.Gates g) = None
instance_of (item.Cell c) = None
instance_of (item.Specify s) = None

-- the items of instances, in their order
abbrev pub instances_in : List Item → List Instance
instances_in items = filter_map instance_of items

-- what the places of a rule hang on: what names mean, the ports of each module, and how many each primitive has
pub record Masters : Type 0 where
  pub of : List ℕ → Master
  pub tables : List (List Port)
  pub counts : List ℕ

-- the places of an item, by what the name of its module means
abbrev pub places_under : InstanceRule → Scope → Masters → Instance → List Location
places_under rule scope masters i = item_places rule scope (ports_of masters.tables masters.counts (masters.of i.name.text)) i

-- the places of items
abbrev pub places_in : InstanceRule → Scope → Masters → List Item → List Location
places_in rule scope masters items = flat_map (places_under rule scope masters) (instances_in items)

-- the places of a module
abbrev pub breaking_places : InstanceRule → Scope → Masters → Module → List Location
breaking_places rule scope masters m = places_in rule scope masters m.items

-- the first place of each rule, where it is broken
abbrev pub instance_places : Scope → Masters → Module → ItemPlaces
instance_places scope masters m = record {
  widths = first_place (breaking_places Widths scope masters m);
  counts = first_place (breaking_places Counts scope masters m);
  delays = first_place (breaking_places Delays scope masters m);
  drives = first_place (breaking_places Drives scope masters m);
  connections = first_place (breaking_places Connections scope masters m);
  literals = first_place (breaking_places Literals scope masters m);
}
