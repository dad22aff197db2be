-- For the code alone: the first places so far, and those of one more primitive.
use Rattle.std.specs.Prelude.{Bool, List, [], ◌∷◌, None, if◌then◌else◌}
use Rattle.v_tree.specs.declared.primitives.UdpDecl.{UdpDecl}
use Rattle.rule_places.specs.Places.{earliest, first_place}
use Rattle.primitive_rules.specs.declared.places.PrimitivePlaces.{PrimitivePlaces}
use Rattle.primitive_rules.specs.Refusals.{table_places}
use Rattle.primitive_rules.specs.Places.{header_places}

-- for each rule the earlier of a place and of that in a primitive
abbrev pub with_places : PrimitivePlaces → UdpDecl → PrimitivePlaces
with_places places udp = record {
  tables = earliest places.tables (first_place (table_places udp));
  headers = earliest places.headers (first_place (header_places udp));
}

-- the same, where the primitive is reached
abbrev pub with_udp : PrimitivePlaces → Bool → UdpDecl → PrimitivePlaces
with_udp places is_reached udp = if is_reached then with_places places udp else places

-- no rule is broken
abbrev pub no_places : PrimitivePlaces
no_places = record { tables = None; headers = None }

-- the same with those of several primitives
abbrev pub with_all : PrimitivePlaces → List Bool → List UdpDecl → PrimitivePlaces
with_all places [] udps = places
with_all places (is_reached ∷ reached) [] = places
with_all places (is_reached ∷ reached) (udp ∷ udps) = with_all (with_udp places is_reached udp) reached udps
