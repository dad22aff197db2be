-- What a file declares and uses under a choice of its top, and the first places of the rules on it.
use Rattle.std.specs.Prelude.{ℕ, Bool, false, List, [], ◌∷◌, length, map, replicate, Option, Some, None}
use Rattle.v_tree.specs.declared.locations.Location.{Location}
use Rattle.v_tree.specs.declared.modules.File.{File}
use Rattle.rule_places.specs.Places.{first_place}
use Rattle.module_directives.specs.InForce.{settings_at}
use Rattle.module_directives.specs.Precisions.{coarse_precisions}
use Rattle.module_graph.specs.Graph.{Graph, graph_of}
use Rattle.module_graph.specs.Names.{repeated_names}
use Rattle.module_graph.specs.Reach.{reached_modules}
use Rattle.module_graph.specs.Rules.{unknown_masters, circular_references}
use Rattle.module_graph.specs.Top.{top_of}
use Rattle.module_scope.specs.declared.rules.NameRule.TheVariants as rule
use Rattle.netlist_scopes.specs.declared.places.NetlistPlaces.{NetlistPlaces}
use Rattle.netlist_scopes.specs.declared.scopes.Scopes.{Scopes}
use Rattle.netlist_scopes.specs.declared.rules.NetlistRule.TheVariants as law
use Rattle.netlist_scopes.specs.Reached.{scope_under, reached_places}
use Rattle.netlist_scopes.specs.Rules.{RulePlaces}

-- the place of a netlist without a top: the beginning of the text
abbrev pub absent_tops : Option ℕ → List Location
absent_tops (Some top) = []
absent_tops None = record { line = 1; token = 0 } ∷ []

-- for each module whether the top reaches it; without a top none is reached
abbrev pub reached_from : Graph → Option ℕ → List Bool
reached_from graph (Some top) = reached_modules graph.references top
reached_from graph None = replicate (length graph.references) false

-- the first place of each rule
abbrev pub netlist_places : File → Graph → Option ℕ → List Bool → NetlistPlaces
netlist_places file graph top reached = record {
  repeated_names = first_place (repeated_names file.modules file.udps);
  absent_top = first_place (absent_tops top);
  unknown_masters = first_place (unknown_masters graph reached);
  circular_references = first_place (circular_references graph reached);
  ports = first_place (reached_places rule.Ports file.directives reached file.modules);
  repeated = first_place (reached_places rule.Repeated file.directives reached file.modules);
  undeclared = first_place (reached_places rule.Undeclared file.directives reached file.modules);
  selects = first_place (reached_places rule.Selects file.directives reached file.modules);
  ranges = first_place (reached_places rule.Ranges file.directives reached file.modules);
  coarse_precisions = first_place (coarse_precisions file.directives);
  implicit = first_place (reached_places rule.Implicit file.directives reached file.modules);
}

-- the rules with the numbers 1 to 8, each with all places that break it
abbrev pub early_places : File → Graph → Option ℕ → List Bool → List RulePlaces
early_places file graph top reached =
    record { rule = law.RepeatedNames; places = repeated_names file.modules file.udps }
    ∷ record { rule = law.AbsentTop; places = absent_tops top }
    ∷ record { rule = law.UnknownMasters; places = unknown_masters graph reached }
    ∷ record { rule = law.CircularReferences; places = circular_references graph reached }
    ∷ record { rule = law.Ports; places = reached_places rule.Ports file.directives reached file.modules }
    ∷ record { rule = law.RepeatedDeclarations; places = reached_places rule.Repeated file.directives reached file.modules }
    ∷ record { rule = law.UndeclaredNets; places = reached_places rule.Undeclared file.directives reached file.modules }
    ∷ record { rule = law.Selects; places = reached_places rule.Selects file.directives reached file.modules }
    ∷ []

-- the rules with the numbers 18 to 20, each with all places that break it
abbrev pub late_places : File → List Bool → List RulePlaces
late_places file reached =
    record { rule = law.Ranges; places = reached_places rule.Ranges file.directives reached file.modules }
    ∷ record { rule = law.CoarsePrecisions; places = coarse_precisions file.directives }
    ∷ record { rule = law.ImplicitNets; places = reached_places rule.Implicit file.directives reached file.modules }
    ∷ []

-- the scopes, given the graph, the top and the modules that it reaches
abbrev pub scopes_with : File → Graph → Option ℕ → List Bool → Scopes
scopes_with file graph top reached = record {
  graph = graph;
  top = top;
  reached = reached;
  settings = map (λ m. settings_at file.directives m.location) file.modules;
  scopes = map (scope_under file.directives) file.modules;
  places = netlist_places file graph top reached;
}

-- the scopes, given the graph and the top
abbrev pub scopes_from : File → Graph → Option ℕ → Scopes
scopes_from file graph top = scopes_with file graph top (reached_from graph top)

-- the scopes of a file under a choice of its top
abbrev pub scopes_of : File → Option (List ℕ) → Scopes
scopes_of file choice = scopes_from file (graph_of file.modules file.udps) (top_of (graph_of file.modules file.udps) choice)
