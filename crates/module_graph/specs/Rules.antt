-- Rules on the references of the modules that are reached.
use Rattle.std.specs.Prelude.{ℕ, Bool, true, false, List, [], slice_index_or, if◌then◌else◌}
use Rattle.std.specs.List.{flat_map, enumerate_from}
use Rattle.v_tree.specs.declared.locations.Location.{Location}
use Rattle.rule_places.specs.Places.{places_where}
use Rattle.module_graph.specs.declared.references.Master.{Master}
use Rattle.module_graph.specs.declared.references.Master.TheVariants.{Module, Udp, Unknown}
use Rattle.module_graph.specs.declared.references.Reference.{Reference}
use Rattle.module_graph.specs.Graph.{Graph}
use Rattle.module_graph.specs.Reach.{is_reached}

-- the references of a module that break a rule, where the module is reached
abbrev pub places_in : (ℕ → Reference → Bool) → List Bool → ℕ × List Reference → List Location
places_in breaks reached entry =
    if slice_index_or reached entry.0 false then places_where (breaks entry.0) (λ r. r.location) entry.1 else []

-- those of all modules
abbrev pub reached_places : (ℕ → Reference → Bool) → List (List Reference) → List Bool → List Location
reached_places breaks references reached = flat_map (places_in breaks reached) (enumerate_from 0 references)

-- a name that is neither a module's nor a primitive's
abbrev pub is_unknown : Master → Bool
is_unknown (Module index) = false
is_unknown (Udp index) = false
is_unknown Unknown = true

-- the references to neither a module nor a primitive
abbrev pub unknown_masters : Graph → List Bool → List Location
unknown_masters graph reached = reached_places (λ index r. is_unknown r.master) graph.references reached

-- a master is a module that a module is reached from
abbrev pub leads_back : List (List Reference) → ℕ → Master → Bool
leads_back references index (Module other) = is_reached references other index
leads_back references index (Udp other) = false
leads_back references index Unknown = false

-- the references to a module from which the module that has the reference is reached again
abbrev pub circular_references : Graph → List Bool → List Location
circular_references graph reached = reached_places (λ index r. leads_back graph.references index r.master) graph.references reached
