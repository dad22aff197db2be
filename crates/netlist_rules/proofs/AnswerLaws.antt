-- The answer is the first broken rule.
use Rattle.std.proofs.Common.{◌≡◌, ℕ, List, ◌++◌, map, Option, None, Some, refl, ap, subst, ◌∙◌}
use Rattle.std.specs.Option.{option_or}
use Rattle.v_tree.specs.declared.modules.File.{File}
use Rattle.netlist_scopes.specs.declared.rules.BrokenRule.{BrokenRule}
use Rattle.netlist_scopes.specs.Rules.{RulePlaces, early_rules, first_broken, first_of, late_rules}
use Rattle.netlist_scopes.proofs.RuleLaws.{first_broken-append, first_broken_none, first_broken_some}
use Rattle.netlist_rules.specs.declared.rules.Rules.{Rules}
use Rattle.netlist_rules.specs.Rules.{IsAnswer, all_rules, broken_rule, middle_rules, rules_of}

-- the first of rules that is broken is their answer
pub IsAnswer-first_broken : (rules : List RulePlaces) → IsAnswer rules (first_broken (map first_of rules))
IsAnswer-first_broken rules = by (first_broken (map first_of rules)) refl
  where
    by : (answer : Option BrokenRule) → first_broken (map first_of rules) ≡ answer → IsAnswer rules answer
    by None e = first_broken_none rules e
    by (Some broken) e = first_broken_some rules broken e

-- the broken rule is the first of all rules, by their numbers, that has a place
pub broken_rule-all : (file : File) (choice : Option (List ℕ)) → first_broken (map first_of (all_rules file choice)) ≡ broken_rule (rules_of file choice)
broken_rule-all file choice = refl

-- so it is the answer
pub IsAnswer-broken_rule : (file : File) (choice : Option (List ℕ)) (rules : Rules) → rules_of file choice ≡ rules → IsAnswer (all_rules file choice) (broken_rule rules)
IsAnswer-broken_rule file choice rules same =
    subst (λ (r : Rules). IsAnswer (all_rules file choice) (broken_rule r)) same
    (subst (λ (answer : Option BrokenRule). IsAnswer (all_rules file choice) answer) (broken_rule-all file choice) (IsAnswer-first_broken (all_rules file choice)))

-- of three lists of rules the first broken one is that of the first list, else that of the second, else that of the third
pub broken_rule_parts : (r : Rules) → broken_rule r
    ≡ option_or (option_or (first_broken (early_rules r.scopes.places)) (first_broken (middle_rules r))) (first_broken (late_rules r.scopes.places))
broken_rule_parts r =
    first_broken-append (early_rules r.scopes.places ++ middle_rules r) (late_rules r.scopes.places)
    ∙ ap (λ (first : Option BrokenRule). option_or first (first_broken (late_rules r.scopes.places))) (first_broken-append (early_rules r.scopes.places) (middle_rules r))
