use Rattle.std.proofs.Common.{◌≡◌, List, ℕ, Option, ap, sym, ◌∙◌}
use Rattle.std.specs.Option.{option_copied}
use Rattle.netlist_rules.specs.Rules.{rules_of}
use Rattle.netlist_laws.proofs.RuleLaws.{rules-unbroken}
use Rattle.elaborate.proofs.RuleLaws.{answer-none, top-is, top-within}
use Rattle.elaborate.proofs.elaboration.elaborate.Goals as goal

pub netlist_of-requires-clause-unbroken : goal.netlist_of-requires-clause-unbroken
netlist_of-requires-clause-unbroken c =
    let file = c.args.file.now in
    let choice = c.args.choice.now in
    let same : c.in_ok-rules.rules ≡ rules_of file choice.top = c.in_ok-rules.ensures.rules ∙ ap (λ (t : Option (List ℕ)). rules_of file t) c.top_name.ensures in
    rules-unbroken file choice.top c.in-None-Some.top (top-is file choice c.in_ok-rules.rules same c.in-None-Some.top c.in-None-Some.is-1)
    (answer-none file (option_copied c.top_name.result) choice.top _ c.top_name.ensures c.in_ok-rules.ensures.answer (sym c.broken_rule.ensures ∙ c.in-None-Some.is-0))

pub netlist_of-requires-clause-top : goal.netlist_of-requires-clause-top
netlist_of-requires-clause-top c =
    let file = c.args.file.now in
    let choice = c.args.choice.now in
    let same : c.in_ok-rules.rules ≡ rules_of file choice.top = c.in_ok-rules.ensures.rules ∙ ap (λ (t : Option (List ℕ)). rules_of file t) c.top_name.ensures in
    top-within file choice.top c.in-None-Some.top (top-is file choice c.in_ok-rules.rules same c.in-None-Some.top c.in-None-Some.is-1)
