use Rattle.std.proofs.Common.{◌≡◌, [], ℕ, List, drop, take, slice_index_or}
use Rattle.name_table.specs.Names.{is_among}
use Rattle.rule_places.specs.Places.{earliest, first_place}
use Rattle.instance_rules.specs.Rules.{named_places}
use Rattle.instance_rules.proofs.Naming.{ports_named}
use Rattle.instance_rules.proofs.connections.named_place.Given as goal

-- the names are those of the connections so far
abbrev pub invariant-loop-connection : goal.invariant-loop-connection
invariant-loop-connection l = record {
  names : (name : List ℕ) → is_among name l.names ≡ is_among name (ports_named (take l.connection-index l.connections));
  first : first_place (named_places (slice_index_or l.tables l.«module» []) [] l.connections)
      ≡ earliest l.place (first_place (named_places (slice_index_or l.tables l.«module» []) (ports_named (take l.connection-index l.connections)) (drop l.connection-index l.connections)));
}
