-- What bodies alone need: mentions by the index of their name.
use Rattle.std.specs.Prelude.{◌≡◌, ℕ, ◌<◌, nat_eq, Bool, List, [], ◌∷◌, ◌++◌, length, map, slice_index_or, Option}
use Rattle.std.specs.List.{All, filter}
use Rattle.v_tree.specs.declared.locations.Location.{Location}
use Rattle.v_tree.specs.declared.locations.Name.{Name}
use Rattle.rule_places.specs.Places.{first_place}
use Rattle.module_scope.specs.declared.roles.Role.{Role}
use Rattle.module_scope.specs.declared.mentions.Occurrence.{Occurrence}
use Rattle.module_scope.specs.declared.rules.NameRule.{NameRule}
use Rattle.module_scope.specs.declared.rules.NameRule.TheVariants as rule
use Rattle.module_scope.specs.declared.places.ScopePlaces.{ScopePlaces}
use Rattle.module_scope.specs.Rules.{breaks}
use Rattle.module_scope.specs.Places.{place_if}
use Rattle.module_scope.specs.Mentions.{Mention, first_names}

-- a name that is written, with its index
abbrev pub occurrence : ℕ → Name → Role → Occurrence
occurrence index name r = record { name = index; location = name.location; role = r }

-- the mention that an occurrence stands for
abbrev pub mention_at : List (List ℕ) → Occurrence → Mention
mention_at names o = record { name = slice_index_or names o.name []; location = o.location; role = o.role }

abbrev pub mentions_at : List (List ℕ) → List Occurrence → List Mention
mentions_at names occurrences = map (mention_at names) occurrences

-- each index is that of a name, and the names are those of the mentions, each once, in the order of their first mentions
pub record AreOccurrences (names : List (List ℕ)) (occurrences : List Occurrence) : Type 0 where
  pub within : All (λ o. o.name < length names) occurrences
  pub order : names ≡ first_names (mentions_at names occurrences)

-- the roles of the name with an index
abbrev pub roles_at : ℕ → List Occurrence → List Role
roles_at index occurrences = map (λ o. o.role) (filter (λ o. nat_eq index o.name) occurrences)

-- the places among occurrences, behind those before them, of all the occurrences of a module
abbrev pub occurrence_places : NameRule → Bool → List Occurrence → List Occurrence → List Occurrence → List Location
occurrence_places law makes all before [] = []
occurrence_places law makes all before (o ∷ occurrences) =
    place_if (breaks law makes (roles_at o.name all) (roles_at o.name before) o.role) o.location
    ++ occurrence_places law makes all (before ++ o ∷ []) occurrences

-- the first place of a rule among occurrences
abbrev pub occurrence_place : NameRule → Bool → List Occurrence → Option Location
occurrence_place law makes occurrences = first_place (occurrence_places law makes occurrences [] occurrences)

-- the first place of each rule among occurrences
abbrev pub occurrences_places : Bool → List Occurrence → ScopePlaces
occurrences_places makes occurrences = record {
  ports = occurrence_place rule.Ports makes occurrences;
  repeated = occurrence_place rule.Repeated makes occurrences;
  undeclared = occurrence_place rule.Undeclared makes occurrences;
  selects = occurrence_place rule.Selects makes occurrences;
  ranges = occurrence_place rule.Ranges makes occurrences;
  implicit = occurrence_place rule.Implicit makes occurrences;
}
