-- The places of a module at which a rule on its names is broken.
use Rattle.std.specs.Prelude.{Bool, List, [], ◌∷◌, ◌++◌, Option, if◌then◌else◌}
use Rattle.std.specs.Option.{is_some}
use Rattle.v_tree.specs.declared.locations.Location.{Location}
use Rattle.v_tree.specs.declared.directives.ImplicitNetType.{ImplicitNetType}
use Rattle.rule_places.specs.Places.{first_place}
use Rattle.module_scope.specs.declared.rules.NameRule.{NameRule}
use Rattle.module_scope.specs.declared.rules.NameRule.TheVariants as rule
use Rattle.module_scope.specs.declared.places.ScopePlaces.{ScopePlaces}
use Rattle.module_scope.specs.Mentions.{Mention, roles_of}
use Rattle.module_scope.specs.Rules.{breaks}

-- the place, where a rule is broken there
abbrev pub place_if : Bool → Location → List Location
place_if broken location = if broken then location ∷ [] else []

-- the places among mentions, behind those before them, of all the mentions of a module
abbrev pub places_behind : NameRule → Bool → List Mention → List Mention → List Mention → List Location
places_behind law makes all before [] = []
places_behind law makes all before (m ∷ mentions) =
    place_if (breaks law makes (roles_of m.name all) (roles_of m.name before) m.role) m.location
    ++ places_behind law makes all (before ++ m ∷ []) mentions

-- the locations of the mentions that break the rule, in their order
abbrev pub breaking_places : NameRule → Bool → List Mention → List Location
breaking_places law makes mentions = places_behind law makes mentions [] mentions

-- the first place of a rule, where it is broken
abbrev pub rule_place : NameRule → Option ImplicitNetType → List Mention → Option Location
rule_place law default mentions = first_place (breaking_places law (is_some default) mentions)

-- the first place of each rule
abbrev pub scope_places : Option ImplicitNetType → List Mention → ScopePlaces
scope_places default mentions = record {
  ports = rule_place rule.Ports default mentions;
  repeated = rule_place rule.Repeated default mentions;
  undeclared = rule_place rule.Undeclared default mentions;
  selects = rule_place rule.Selects default mentions;
  ranges = rule_place rule.Ranges default mentions;
  implicit = rule_place rule.Implicit default mentions;
}
