use Rattle.std.proofs.Common.{Option, List, ℕ, sym, ap, ◌∙◌}
use Rattle.module_graph.specs.Numbers.{least_under}
use Rattle.module_graph.specs.Tokens.{is_below}
use Rattle.module_graph.proofs.repeated.has_earlier.Goals as goal

pub returns-in-Some : goal.returns-in-Some
returns-in-Some c names has =
    sym (has c.args.name.now.text c.args.name.now.location.token
    ∙ ap (λ (o : Option ℕ). is_below o c.args.name.now.location.token)
    (ap (λ (text : List ℕ). least_under text c.args.table.now) (sym c.as_slice.ensures) ∙ sym c.least.ensures ∙ c.in-Some.is))

pub returns-in-None : goal.returns-in-None
returns-in-None c names has =
    sym (has c.args.name.now.text c.args.name.now.location.token
    ∙ ap (λ (o : Option ℕ). is_below o c.args.name.now.location.token)
    (ap (λ (text : List ℕ). least_under text c.args.table.now) (sym c.as_slice.ensures) ∙ sym c.least.ensures ∙ c.in-None.is))
