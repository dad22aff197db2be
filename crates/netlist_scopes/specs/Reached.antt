-- The rules on the names of modules, over the modules that the top reaches.
use Rattle.std.specs.Prelude.{Bool, List}
use Rattle.std.specs.List.{flat_map, items_where_true}
use Rattle.std.specs.Option.{is_some}
use Rattle.v_tree.specs.declared.locations.Location.{Location}
use Rattle.v_tree.specs.declared.directives.Directive.{Directive}
use Rattle.v_tree.specs.declared.modules.Module.{Module}
use Rattle.rule_places.specs.Places.{first_place}
use Rattle.module_directives.specs.InForce.{settings_at}
use Rattle.module_scope.specs.declared.rules.NameRule.{NameRule}
use Rattle.module_scope.specs.declared.rules.NameRule.TheVariants as rule
use Rattle.module_scope.specs.declared.scopes.Scope.{Scope}
use Rattle.module_scope.specs.declared.places.ScopePlaces.{ScopePlaces}
use Rattle.module_scope.specs.Mentions.{mentions_in}
use Rattle.module_scope.specs.Places.{breaking_places}
use Rattle.module_scope.specs.Scopes.{scope_of}

-- the scope of a module under the directives before it
abbrev pub scope_under : List Directive → Module → Scope
scope_under directives m = scope_of (settings_at directives m.location).implicit_type m

-- the places of a module that break a rule on names
abbrev pub module_places : NameRule → List Directive → Module → List Location
module_places law directives m = breaking_places law (is_some (settings_at directives m.location).implicit_type) (mentions_in m)

-- the places of all modules that are reached, module by module
abbrev pub reached_places : NameRule → List Directive → List Bool → List Module → List Location
reached_places law directives reached modules = flat_map (module_places law directives) (items_where_true reached modules)

-- the first place of each rule on names
abbrev pub name_places : List Directive → List Bool → List Module → ScopePlaces
name_places directives reached modules = record {
  ports = first_place (reached_places rule.Ports directives reached modules);
  repeated = first_place (reached_places rule.Repeated directives reached modules);
  undeclared = first_place (reached_places rule.Undeclared directives reached modules);
  selects = first_place (reached_places rule.Selects directives reached modules);
  ranges = first_place (reached_places rule.Ranges directives reached modules);
  implicit = first_place (reached_places rule.Implicit directives reached modules);
}
