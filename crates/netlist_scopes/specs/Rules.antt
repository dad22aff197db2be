-- The rules in the order of their numbers, and the first of them that is broken.
use Rattle.std.specs.Prelude.{◌≡◌, ℕ, List, [], ◌∷◌, ◌++◌, Option, option_and_then}
use Rattle.std.specs.List.{All, find}
use Rattle.std.specs.Option.{is_some, option_map}
use Rattle.v_tree.specs.declared.locations.Location.{Location}
use Rattle.rule_places.specs.Places.{first_place, IsFirst}
use Rattle.netlist_scopes.specs.declared.rules.NetlistRule.{NetlistRule}
use Rattle.netlist_scopes.specs.declared.rules.NetlistRule.TheVariants as rule
use Rattle.netlist_scopes.specs.declared.rules.RulePlace.{RulePlace}
use Rattle.netlist_scopes.specs.declared.rules.BrokenRule.{BrokenRule}
use Rattle.netlist_scopes.specs.declared.places.NetlistPlaces.{NetlistPlaces}

-- the number of a rule in its message
abbrev pub number_of : NetlistRule → ℕ
number_of rule.RepeatedNames = 1
number_of rule.AbsentTop = 2
number_of rule.UnknownMasters = 3
number_of rule.CircularReferences = 4
number_of rule.Ports = 5
number_of rule.RepeatedDeclarations = 6
number_of rule.UndeclaredNets = 7
number_of rule.Selects = 8
number_of rule.Widths = 9
number_of rule.Counts = 10
number_of rule.Delays = 11
number_of rule.Drives = 12
number_of rule.Connections = 13
number_of rule.Literals = 14
number_of rule.Tables = 16
number_of rule.Headers = 17
number_of rule.Ranges = 18
number_of rule.CoarsePrecisions = 19
number_of rule.ImplicitNets = 20

-- a rule with all places that break it
pub record RulePlaces : Type 0 where
  pub rule : NetlistRule
  pub places : List Location

-- the same with the first of them
abbrev pub first_of : RulePlaces → RulePlace
first_of r = record { rule = r.rule; place = first_place r.places }

-- no rule before it is broken, and the line is that of its first place
pub record IsFirstBroken (rules : List RulePlaces) (broken : BrokenRule) : Type 0 where
  pub before : List RulePlaces
  pub here : RulePlaces
  pub behind : List RulePlaces
  pub place : Location
  pub split : rules ≡ before ++ here ∷ behind
  pub none_before : All (λ r. r.places ≡ []) before
  pub first : IsFirst here.places place
  pub rule : broken.rule ≡ here.rule
  pub line : broken.line ≡ place.line

-- a rule with the line of its first place, where it has one
abbrev pub broken_of : RulePlace → Option BrokenRule
broken_of r = option_map (λ place. record { rule = r.rule; line = place.line }) r.place

-- the first of rules that is broken
abbrev pub first_broken : List RulePlace → Option BrokenRule
first_broken rules = option_and_then broken_of (find (λ r. is_some r.place) rules)

-- a rule with this first place, where it has one
abbrev pub rule_place : NetlistRule → Option Location → RulePlace
rule_place r first = record { rule = r; place = first }

-- the rules with the numbers 1 to 8
abbrev pub early_rules : NetlistPlaces → List RulePlace
early_rules p = rule_place rule.RepeatedNames p.repeated_names
    ∷ rule_place rule.AbsentTop p.absent_top
    ∷ rule_place rule.UnknownMasters p.unknown_masters
    ∷ rule_place rule.CircularReferences p.circular_references
    ∷ rule_place rule.Ports p.ports
    ∷ rule_place rule.RepeatedDeclarations p.repeated
    ∷ rule_place rule.UndeclaredNets p.undeclared
    ∷ rule_place rule.Selects p.selects
    ∷ []

-- the rules with the numbers 18 to 20
abbrev pub late_rules : NetlistPlaces → List RulePlace
late_rules p = rule_place rule.Ranges p.ranges
    ∷ rule_place rule.CoarsePrecisions p.coarse_precisions
    ∷ rule_place rule.ImplicitNets p.implicit
    ∷ []

-- the broken rule with the lowest number
abbrev pub broken_rule : NetlistPlaces → Option BrokenRule
broken_rule places = first_broken (early_rules places ++ late_rules places)
