use Rattle.std.proofs.Common.{◌≡◌, List, ap, subst, ◌∙◌}
use Rattle.std.specs.Prelude.{IfOk}
use Rattle.rule_places.specs.Places.{first_place}
use Rattle.module_graph.specs.declared.references.Reference.{Reference}
use Rattle.module_graph.specs.Graph.{Graph}
use Rattle.module_graph.specs.Rules.{leads_back, reached_places}
use Rattle.module_graph.proofs.graph.ModuleGraph.circular_reference.Goals as goal

pub returns : goal.returns
returns c =
    subst (λ (rs : List (List Reference)). IfOk c.first_circular.result (λ place. place ≡ first_place (reached_places (λ index r. leads_back rs index r.master) rs c.args.reached.now)))
    (c.as_slice.ensures ∙ ap (λ (g : Graph). g.references) c.self.view_is) c.first_circular.ensures
