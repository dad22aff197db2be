-- For the code alone: the first places, one scope after the other.
use Rattle.std.specs.Prelude.{Bool, List, [], ◌∷◌, None, if◌then◌else◌}
use Rattle.rule_places.specs.Places.{earliest}
use Rattle.module_scope.specs.declared.scopes.Scope.{Scope}
use Rattle.module_scope.specs.declared.places.ScopePlaces.{ScopePlaces}

-- no rule is broken
abbrev pub no_places : ScopePlaces
no_places = record { ports = None; repeated = None; undeclared = None; selects = None; ranges = None; implicit = None }

-- for each rule the earlier of two places that may be there
abbrev pub earliest_places : ScopePlaces → ScopePlaces → ScopePlaces
earliest_places a b = record {
  ports = earliest a.ports b.ports;
  repeated = earliest a.repeated b.repeated;
  undeclared = earliest a.undeclared b.undeclared;
  selects = earliest a.selects b.selects;
  ranges = earliest a.ranges b.ranges;
  implicit = earliest a.implicit b.implicit;
}

-- the same with the places of a scope, where its module is reached
abbrev pub with_scope : ScopePlaces → Bool → Scope → ScopePlaces
with_scope places is_reached scope = if is_reached then earliest_places places scope.places else places

-- the same with those of several scopes
abbrev pub places_among : ScopePlaces → List Bool → List Scope → ScopePlaces
places_among places [] scopes = places
places_among places (is_reached ∷ reached) [] = places
places_among places (is_reached ∷ reached) (scope ∷ scopes) = places_among (with_scope places is_reached scope) reached scopes
