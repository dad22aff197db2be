use Rattle.std.proofs.Common.{◌≡◌, ℕ, List, ap, ◌∙◌}
use Rattle.netlist_meaning.specs.Plans.{primitive_numbers}
use Rattle.hierarchy_plans.specs.Lists.{plan_list}
use Rattle.elaborate.proofs.PlanLaws.{numbers-same, plans-same, reached-length}
use Rattle.elaborate.proofs.written.plans_of.Goals as goal

pub plan_list-requires-clause-reached : goal.plan_list-requires-clause-reached
plan_list-requires-clause-reached c = reached-length c.args.file.now c.args.top c.args.rules.now c.requires.rules

pub returns : goal.returns
returns c =
    c.in_ok-plans.ensures
    ∙ ap (λ (numbers : List ℕ). plan_list c.args.file.now numbers c.args.rules.now.scopes.reached)
    (c.deref.ensures.value ∙ c.in_ok-numbers.ensures ∙ numbers-same c.args.file.now c.args.top c.args.reached.now c.requires.reached)
    ∙ plans-same c.args.file.now c.args.top c.args.rules.now c.requires.rules
