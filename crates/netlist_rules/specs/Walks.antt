-- For the code alone: the first places so far, and those of one more module.
use Rattle.std.specs.Prelude.{Bool, List, [], ◌∷◌, if◌then◌else◌}
use Rattle.v_tree.specs.declared.modules.Module.{Module}
use Rattle.v_tree.specs.declared.modules.File.{File}
use Rattle.rule_places.specs.Places.{earliest, first_place}
use Rattle.module_scope.specs.declared.scopes.Scope.{Scope}
use Rattle.gate_rules.specs.declared.places.GatePlaces.{GatePlaces}
use Rattle.instance_rules.specs.declared.places.ItemPlaces.{ItemPlaces}
use Rattle.instance_rules.specs.Items.InstanceRule.{Widths, Counts, Delays, Drives, Connections, Literals}
use Rattle.instance_rules.specs.Places.{Masters}
use Rattle.instance_rules.specs.Walks.{earliest_places}
use Rattle.netlist_scopes.specs.Reached.{scope_under}
use Rattle.netlist_rules.specs.Items.{masters_of, places_under}

-- for each rule the earlier of a place of gates and one of instances
abbrev pub joined_places : GatePlaces → ItemPlaces → ItemPlaces
joined_places gates instances = record {
  widths = earliest gates.widths instances.widths;
  counts = earliest gates.counts instances.counts;
  delays = earliest gates.delays instances.delays;
  drives = earliest gates.drives instances.drives;
  connections = instances.connections;
  literals = earliest gates.literals instances.literals;
}

-- the first place of each rule in a module, given its scope and what names mean
abbrev pub first_under : Scope → Masters → Module → ItemPlaces
first_under scope masters m = record {
  widths = first_place (places_under Widths scope masters m);
  counts = first_place (places_under Counts scope masters m);
  delays = first_place (places_under Delays scope masters m);
  drives = first_place (places_under Drives scope masters m);
  connections = first_place (places_under Connections scope masters m);
  literals = first_place (places_under Literals scope masters m);
}

-- the same in a module of a file
abbrev pub first_in : File → Module → ItemPlaces
first_in file m = first_under (scope_under file.directives m) (masters_of file) m

-- places so far with those in a module, where it is reached
abbrev pub with_module : File → ItemPlaces → Bool → Module → ItemPlaces
with_module file places is_reached m = if is_reached then earliest_places places (first_in file m) else places

-- the same with those in several modules
abbrev pub with_modules : File → ItemPlaces → List Bool → List Module → ItemPlaces
with_modules file places [] modules = places
with_modules file places (is_reached ∷ reached) [] = places
with_modules file places (is_reached ∷ reached) (m ∷ modules) =
    with_modules file (with_module file places is_reached m) reached modules
