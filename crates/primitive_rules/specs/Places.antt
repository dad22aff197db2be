-- The places of the two rules on primitives, over those that are reached.
use Rattle.std.specs.Prelude.{Bool, List, [], ◌∷◌, if◌then◌else◌}
use Rattle.std.specs.List.{flat_map, items_where_true}
use Rattle.v_tree.specs.declared.locations.Location.{Location}
use Rattle.v_tree.specs.declared.primitives.UdpDecl.{UdpDecl}
use Rattle.rule_places.specs.Places.{first_place}
use Rattle.primitive_rules.specs.declared.places.PrimitivePlaces.{PrimitivePlaces}
use Rattle.primitive_rules.specs.Headers.{breaks_header}
use Rattle.primitive_rules.specs.Refusals.{table_places}

-- where the tables or the number of inputs of reached primitives are refused
abbrev pub refused_tables : List Bool → List UdpDecl → List Location
refused_tables reached udps = flat_map table_places (items_where_true reached udps)

-- the name of a primitive, where its header is wrong
abbrev pub header_places : UdpDecl → List Location
header_places udp = if breaks_header udp then udp.name.location ∷ [] else []

-- the names of reached primitives with wrong headers
abbrev pub wrong_headers : List Bool → List UdpDecl → List Location
wrong_headers reached udps = flat_map header_places (items_where_true reached udps)

-- the first place of each rule
abbrev pub primitive_places : List Bool → List UdpDecl → PrimitivePlaces
primitive_places reached udps = record {
  tables = first_place (refused_tables reached udps);
  headers = first_place (wrong_headers reached udps);
}
