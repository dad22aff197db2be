use Rattle.std.proofs.Common.{◌≡◌, List, ap, ◌∙◌, arith}
use Rattle.netlist_scopes.specs.declared.places.NetlistPlaces.{NetlistPlaces}
use Rattle.netlist_scopes.specs.Rules.{early_rules, first_broken, late_rules}
use Rattle.netlist_rules.specs.Rules.{middle_rules}
use Rattle.netlist_rules.proofs.AnswerLaws.{broken_rule_parts}
use Rattle.netlist_rules.proofs.rules.Rules.broken_rule.Goals as goal

pub returns : goal.returns
returns c =
    let r = c.args.self.now in
    let parts = broken_rule_parts r in
    let early : c.first_broken-early.result ≡ first_broken (early_rules r.scopes.places) =
    c.first_broken-early.ensures ∙ ap first_broken c.early_rules.ensures ∙ ap (λ (p : NetlistPlaces). first_broken (early_rules p)) c.places-places.ensures in
    let middle : c.first_broken-middle.result ≡ first_broken (middle_rules r) = c.first_broken-middle.ensures ∙ ap first_broken c.middle_rules.ensures in
    let late : c.first_broken-late.result ≡ first_broken (late_rules r.scopes.places) =
    c.first_broken-late.ensures ∙ ap first_broken c.late_rules.ensures ∙ ap (λ (p : NetlistPlaces). first_broken (late_rules p)) c.places-places.ensures in
    grind (arith, parts, early, middle, late, c.or.ensures, c.or-2.ensures)
