-- The rules that are judged before the limits, in the order of their numbers, and the first of them that is broken.
use Rattle.std.specs.Prelude.{◌≡◌, ℕ, Bool, List, [], ◌∷◌, ◌++◌, length, Option, MatchOption}
use Rattle.std.specs.List.{All}
use Rattle.v_tree.specs.declared.modules.File.{File}
use Rattle.module_graph.specs.Graph.{Graph, graph_of}
use Rattle.module_graph.specs.Reach.{reached_udps}
use Rattle.module_graph.specs.Top.{top_of}
use Rattle.instance_rules.specs.Items.InstanceRule.{Widths, Counts, Delays, Drives, Connections, Literals}
use Rattle.primitive_rules.specs.Places.{primitive_places, refused_tables, wrong_headers}
use Rattle.netlist_scopes.specs.declared.rules.NetlistRule.TheVariants as law
use Rattle.netlist_scopes.specs.declared.rules.BrokenRule.{BrokenRule}
use Rattle.netlist_scopes.specs.declared.rules.RulePlace.{RulePlace}
use Rattle.netlist_scopes.specs.declared.scopes.Scopes.{Scopes}
use Rattle.netlist_scopes.specs.Rules.{RulePlaces, IsFirstBroken, early_rules, first_broken, late_rules, rule_place}
use Rattle.netlist_scopes.specs.Scopes.{early_places, late_places, reached_from, scopes_of}
use Rattle.netlist_rules.specs.declared.rules.Rules.{Rules}
use Rattle.netlist_rules.specs.Items.{item_places, port_tables, reached_places}

-- the primitives that reached modules instantiate
abbrev pub udps_reached : File → Graph → List Bool → List Bool
udps_reached file graph reached = reached_udps graph.references reached (length file.udps)

-- the rules with the numbers 9 to 17, each with all places that break it; 15 speaks of the flat netlist
abbrev pub middle_places : File → Graph → List Bool → List RulePlaces
middle_places file graph reached =
    record { rule = law.Widths; places = reached_places Widths file reached }
    ∷ record { rule = law.Counts; places = reached_places Counts file reached }
    ∷ record { rule = law.Delays; places = reached_places Delays file reached }
    ∷ record { rule = law.Drives; places = reached_places Drives file reached }
    ∷ record { rule = law.Connections; places = reached_places Connections file reached }
    ∷ record { rule = law.Literals; places = reached_places Literals file reached }
    ∷ record { rule = law.Tables; places = refused_tables (udps_reached file graph reached) file.udps }
    ∷ record { rule = law.Headers; places = wrong_headers (udps_reached file graph reached) file.udps }
    ∷ []

-- all rules, given the graph, the top and the modules that it reaches
abbrev pub places_with : File → Graph → Option ℕ → List Bool → List RulePlaces
places_with file graph top reached =
    early_places file graph top reached ++ middle_places file graph reached ++ late_places file reached

-- all rules, given the graph and the top
abbrev pub places_from : File → Graph → Option ℕ → List RulePlaces
places_from file graph top = places_with file graph top (reached_from graph top)

-- all rules on a file under a choice of its top, each with all places that break it
abbrev pub all_rules : File → Option (List ℕ) → List RulePlaces
all_rules file choice = places_from file (graph_of file.modules file.udps) (top_of (graph_of file.modules file.udps) choice)

-- the answer is the first broken rule with the line of its first place, and there is none exactly where no rule is broken
abbrev pub IsAnswer : List RulePlaces → Option BrokenRule → Type 0
IsAnswer rules answer = MatchOption answer (All (λ r. r.places ≡ []) rules) (IsFirstBroken rules)

-- ---- what is kept of a file

-- the ports of its modules and the first places of the rules, given its scopes
abbrev pub rules_with : File → Scopes → Rules
rules_with file scopes = record {
  scopes = scopes;
  tables = port_tables file.directives file.modules;
  items = item_places file scopes.reached;
  primitives = primitive_places (udps_reached file scopes.graph scopes.reached) file.udps;
}

-- the same under a choice of its top
abbrev pub rules_of : File → Option (List ℕ) → Rules
rules_of file choice = rules_with file (scopes_of file choice)

-- the rules with the numbers 9 to 17, each with its first place
abbrev pub middle_rules : Rules → List RulePlace
middle_rules r = rule_place law.Widths r.items.widths
    ∷ rule_place law.Counts r.items.counts
    ∷ rule_place law.Delays r.items.delays
    ∷ rule_place law.Drives r.items.drives
    ∷ rule_place law.Connections r.items.connections
    ∷ rule_place law.Literals r.items.literals
    ∷ rule_place law.Tables r.primitives.tables
    ∷ rule_place law.Headers r.primitives.headers
    ∷ []

-- the broken rule with the lowest number
abbrev pub broken_rule : Rules → Option BrokenRule
broken_rule r = first_broken (early_rules r.scopes.places ++ middle_rules r ++ late_rules r.scopes.places)
