-- The laws of the first broken rule.
use Rattle.std.proofs.Common.{◌≡◌, List, [], ◌∷◌, ◌++◌, map, Option, None, Some, refl, ap}
use Rattle.std.specs.List.{All}
use Rattle.std.specs.Option.{option_or}
use Rattle.v_tree.specs.declared.locations.Location.{Location}
use Rattle.netlist_scopes.specs.declared.rules.RulePlace.{RulePlace}
use Rattle.std.proofs.lemmas.List.Elements.{All-nil, All-cons}
use Rattle.rule_places.specs.Places.{first_place}
use Rattle.rule_places.proofs.PlaceLaws.{first_place_none, IsFirst-first_place}
use Rattle.netlist_scopes.specs.declared.rules.BrokenRule.{BrokenRule}
use Rattle.netlist_scopes.specs.Rules.{RulePlaces, IsFirstBroken, first_broken, first_of}

-- the first of two lists is that of the first list, else that of the second
pub first_broken-append : (xs ys : List RulePlace) → first_broken (xs ++ ys) ≡ option_or (first_broken xs) (first_broken ys)
first_broken-append [] ys = refl
first_broken-append (x ∷ xs) ys = by x.place refl (first_broken-append xs ys)
  where
    by : (place : Option Location) → x.place ≡ place → first_broken (xs ++ ys) ≡ option_or (first_broken xs) (first_broken ys) → first_broken ((x ∷ xs) ++ ys) ≡ option_or (first_broken (x ∷ xs)) (first_broken ys)
    by None e rest = rw e rest
    by (Some at) e rest = rw e refl

-- where no rule is broken, none has a place
pub first_broken_none : (rules : List RulePlaces) → first_broken (map first_of rules) ≡ None → All (λ r. r.places ≡ []) rules
first_broken_none [] e = All-nil (λ r. r.places ≡ [])
first_broken_none (r ∷ rules) e = by (first_place r.places) refl (first_broken_none rules) e
  where
    by : (place : Option Location) → first_place r.places ≡ place → (first_broken (map first_of rules) ≡ None → All (λ r. r.places ≡ []) rules) →
        first_broken (map first_of (r ∷ rules)) ≡ None → All (λ r. r.places ≡ []) (r ∷ rules)
    by None none rest e = All-cons (λ r. r.places ≡ []) r rules (first_place_none r.places none) (rest (rw none at e))
    by (Some place) some rest e =
        let here : BrokenRule = record { rule = r.rule; line = place.line } in
        let absent : Some here ≡ None = rw some at e in
        absurd cc

-- a rule before a list, where it isn't broken
IsFirstBroken-next : (r : RulePlaces) (rules : List RulePlaces) (b : BrokenRule) → r.places ≡ [] → IsFirstBroken rules b → IsFirstBroken (r ∷ rules) b
IsFirstBroken-next r rules b none rest = record {
  before = r ∷ rest.before;
  here = rest.here;
  behind = rest.behind;
  place = rest.place;
  split = ap (λ (rs : List RulePlaces). r ∷ rs) rest.split;
  none_before = All-cons (λ r. r.places ≡ []) r rest.before none rest.none_before;
  first = rest.first;
  rule = rest.rule;
  line = rest.line;
}

-- the broken rule is the first that has a place, and the line is that of its first place
pub first_broken_some : (rules : List RulePlaces) (b : BrokenRule) → first_broken (map first_of rules) ≡ Some b → IsFirstBroken rules b
first_broken_some [] b e = absurd cc
first_broken_some (r ∷ rules) b e = by (first_place r.places) refl (first_broken_some rules b) e
  where
    by : (place : Option Location) → first_place r.places ≡ place → (first_broken (map first_of rules) ≡ Some b → IsFirstBroken rules b) →
        first_broken (map first_of (r ∷ rules)) ≡ Some b → IsFirstBroken (r ∷ rules) b
    by None none rest e = IsFirstBroken-next r rules b (first_place_none r.places none) (rest (rw none at e))
    by (Some place) some rest e =
        let at_place : BrokenRule = record { rule = r.rule; line = place.line } in
        let same : Some at_place ≡ Some b = rw some at e in
        record {
          before = [];
          here = r;
          behind = rules;
          place = place;
          split = refl;
          none_before = All-nil (λ r. r.places ≡ []);
          first = IsFirst-first_place r.places place some;
          rule = cc;
          line = cc;
        }
