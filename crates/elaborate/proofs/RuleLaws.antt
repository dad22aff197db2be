-- What the rules on a file keep of it, and the refusal of a broken one.
use Rattle.std.proofs.Common.{◌≡◌, ℕ, ◌<◌, List, [], ◌∷◌, length, map, Option, None, Some, refl, sym, ap, subst, ◌∙◌}
use Rattle.std.specs.Prelude.{not, option_and_then}
use Rattle.std.specs.List.{All, AllByRecursion}
use Rattle.std.specs.Option.{option_map, option_or}
use Rattle.std.proofs.lemmas.List.{length-map}
use Rattle.v_tree.specs.declared.modules.Module.{Module}
use Rattle.v_tree.specs.declared.modules.File.{File}
use Rattle.module_graph.specs.Graph.{master_of, module_names, references_in, udp_names}
use Rattle.module_graph.specs.Top.{is_instantiated, last_root, top_of}
use Rattle.module_graph.proofs.NumberLaws.{index_of_at}
use Rattle.module_graph.proofs.TopLaws.{IsLast-last_below}
use Rattle.netlist_scopes.specs.declared.rules.BrokenRule.{BrokenRule}
use Rattle.netlist_scopes.specs.Rules.{RulePlaces, first_broken, first_of}
use Rattle.netlist_scopes.specs.Scopes.{absent_tops, reached_from}
use Rattle.netlist_rules.specs.declared.rules.Rules.{Rules}
use Rattle.netlist_rules.specs.Rules.{IsAnswer, all_rules, broken_rule, places_from, rules_of}
use Rattle.netlist_rules.proofs.AnswerLaws.{broken_rule-all}
use Rattle.flattening_laws.proofs.Apart.{each_from_All}
use Rattle.netlist_meaning.specs.Plans.{graph_in, modules_reached}
use Rattle.elaborate.specs.declared.choice.Choice.{Choice}
use Rattle.elaborate.specs.declared.fault.NetFault.{NetFault}
use Rattle.elaborate.specs.Refusals.{limit_refusal, refusal, rule_fault, rule_refusal, top_in}
use Rattle.elaborate.specs.Rules.{AreRulesOf}

-- ---- what is kept

pub rules-kept : (file : File) (choice : Option (List ℕ)) (top : ℕ) (rules : Rules) → rules ≡ rules_of file choice → rules.scopes.top ≡ Some top → AreRulesOf file top rules
rules-kept file choice top rules same is =
    subst (λ (r : Rules). AreRulesOf file top r) (sym same) (record {
      graph = refl;
      reached = ap (λ (o : Option ℕ). reached_from (graph_in file) o) (sym (ap (λ (r : Rules). r.scopes.top) same) ∙ is);
      settings = refl;
      scopes = refl;
      tables = refl;
    })

-- ---- refusals

module _ (file : File) (choice : Choice) (rules : Rules) (same : rules ≡ rules_of file choice.top) where
  rule_answer : rule_refusal file choice ≡ option_map rule_fault (broken_rule rules)
  rule_answer = ap (λ (o : Option BrokenRule). option_map rule_fault o) (broken_rule-all file choice.top ∙ sym (ap broken_rule same))

  pub rule-refused : (broken : BrokenRule) → broken_rule rules ≡ Some broken → refusal file choice ≡ Some (rule_fault broken)
  rule-refused broken is =
      ap (λ (o : Option NetFault). option_or o (option_and_then (limit_refusal choice.delays file) (top_in file choice)))
      (rule_answer ∙ ap (λ (o : Option BrokenRule). option_map rule_fault o) is)

  pub top-is : (top : ℕ) → rules.scopes.top ≡ Some top → top_in file choice ≡ Some top
  top-is top is = sym (ap (λ (r : Rules). r.scopes.top) same) ∙ is

  pub refusal-of-top : broken_rule rules ≡ None → (top : ℕ) → rules.scopes.top ≡ Some top → refusal file choice ≡ limit_refusal choice.delays file top
  refusal-of-top none top is =
      ap (λ (o : Option NetFault). option_or o (option_and_then (limit_refusal choice.delays file) (top_in file choice)))
      (rule_answer ∙ ap (λ (o : Option BrokenRule). option_map rule_fault o) none)
      ∙ ap (λ (o : Option ℕ). option_and_then (limit_refusal choice.delays file) o) (top-is top is)

  -- where no rule is broken there is a top
  pub has-top : All (λ (r : RulePlaces). r.places ≡ []) (all_rules file choice.top) → rules.scopes.top ≡ None → ⊥
  has-top none is =
      absent (each_from_All (λ (r : RulePlaces). r.places ≡ []) (places_from file (graph_in file) None)
      (subst (λ (o : Option ℕ). All (λ (r : RulePlaces). r.places ≡ []) (places_from file (graph_in file) o)) (sym (ap (λ (r : Rules). r.scopes.top) same) ∙ is) none))
    where
      absent : AllByRecursion (λ (r : RulePlaces). r.places ≡ []) (places_from file (graph_in file) None) → ⊥
      absent each = let no : absent_tops None ≡ [] = each.1.0 in cc

-- ---- the top

pub top-within : (file : File) (choice : Option (List ℕ)) (top : ℕ) → top_of (graph_in file) choice ≡ Some top → top < length file.modules
top-within file (Some name) top is =
    subst (λ count. top < count) (length-map file.modules (λ (x : Module). x.name.text)) (index_of_at name (module_names file.modules) top is).0
top-within file None top is =
    let references = (graph_in file).references in
    subst (λ count. top < count) (length-map file.modules (λ (m : Module). references_in (master_of (module_names file.modules) (udp_names file.udps)) m.items))
    (IsLast-last_below (λ index. not (is_instantiated references index)) (length references) top is).within

-- no rule is broken where none is answered
pub answer-none : (file : File) (given choice : Option (List ℕ)) (answer : Option BrokenRule) → given ≡ choice → IsAnswer (all_rules file given) answer → answer ≡ None
    → All (λ (r : RulePlaces). r.places ≡ []) (all_rules file choice)
answer-none file given choice answer same is none =
    subst (λ (t : Option (List ℕ)). All (λ (r : RulePlaces). r.places ≡ []) (all_rules file t)) same
    (subst (λ (o : Option BrokenRule). IsAnswer (all_rules file given) o) none is)
