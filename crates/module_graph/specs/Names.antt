-- The names of modules and primitives, and those that were there before (IEEE 1364-2005, 12.1).
use Rattle.std.specs.Prelude.{Bool, ◌&&◌, List, ◌++◌, map, nat_lt}
use Rattle.std.specs.List.{list_any}
use Rattle.v_tree.specs.declared.locations.Location.{Location}
use Rattle.v_tree.specs.declared.locations.Name.{Name}
use Rattle.v_tree.specs.declared.modules.Module.{Module}
use Rattle.v_tree.specs.declared.primitives.UdpDecl.{UdpDecl}
use Rattle.name_table.specs.Names.{same_name}
use Rattle.rule_places.specs.Places.{places_where}

-- the names of all modules and primitives of a file
abbrev pub described_names : List Module → List UdpDecl → List Name
described_names modules udps = map (λ m. m.name) modules ++ map (λ u. u.name) udps

-- one of the names, with a smaller token than that of a name, has its text
abbrev pub has_earlier : List Name → Name → Bool
has_earlier names name = list_any (λ other. same_name name.text other.text && nat_lt other.location.token name.location.token) names

-- the names of which there is an earlier one
abbrev pub repeated_names : List Module → List UdpDecl → List Location
repeated_names modules udps = places_where (has_earlier (described_names modules udps)) (λ name. name.location) (described_names modules udps)
