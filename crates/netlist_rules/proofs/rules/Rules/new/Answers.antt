use Rattle.std.proofs.Common.{◌≡◌, ℕ, List, length, ap, sym, ◌∙◌}
use Rattle.std.specs.Prelude.{Option, Result, Ok, Err, IfOk}
use Rattle.v_tree.specs.declared.modules.File.{File}
use Rattle.netlist_scopes.specs.Scopes.{scopes_of}
use Rattle.netlist_rules.specs.declared.rules.Rules.{Rules}
use Rattle.netlist_rules.specs.Rules.{IsAnswer, all_rules, broken_rule, rules_with}
use Rattle.std.specs.Option.{option_copied}
use Rattle.module_graph.specs.Graph.{graph_of}
use Rattle.module_graph.specs.Top.{top_of}
use Rattle.netlist_scopes.specs.declared.scopes.Scopes.{Scopes}
use Rattle.netlist_scopes.proofs.ScopeLaws.{length-reached_from}
use Rattle.netlist_rules.proofs.AnswerLaws.{IsAnswer-broken_rule}
use Rattle.netlist_rules.proofs.rules.Rules.new.Goals as goal

answer_by : {E : Type 0} (file : File) (choice : Option (List ℕ)) (scopes : Scopes) (r : Result Rules E) → scopes ≡ scopes_of file choice → IfOk r (λ rules. rules ≡ rules_with file scopes) →
    IfOk r (λ rules. IsAnswer (all_rules file choice) (broken_rule rules))
answer_by file choice scopes (Ok rules) same is = IsAnswer-broken_rule file choice rules (sym (is ∙ ap (rules_with file) same))
answer_by file choice scopes (Err e) same is = tt

pub returns-clause-answer : goal.returns-clause-answer
returns-clause-answer c =
    answer_by c.args.file.now (option_copied c.args.choice) c.in_ok-scopes.scopes c.rules_with.result c.in_ok-scopes.ensures c.rules_with.ensures

pub rules_with-requires : goal.rules_with-requires
rules_with-requires c =
    let file = c.args.file.now in
    record {
      scopes = ap (λ (s : Scopes). s.scopes) c.in_ok-scopes.ensures;
      graph = ap (λ (s : Scopes). s.graph) c.in_ok-scopes.ensures;
      reached = ap (λ (s : Scopes). length s.reached) c.in_ok-scopes.ensures ∙ length-reached_from file.modules file.udps (top_of (graph_of file.modules file.udps) (option_copied c.args.choice));
    }
