use Rattle.std.proofs.Common.{List, ap, ◌∙◌}
use Rattle.module_scope.specs.declared.scopes.Scope.{Scope}
use Rattle.netlist_scopes.specs.Walks.{no_places, places_among}
use Rattle.netlist_scopes.proofs.ReachedLaws.{places_among-reached}
use Rattle.netlist_scopes.proofs.scopes.scopes_and_places.Goals as goal

pub returns-clause-places : goal.returns-clause-places
returns-clause-places c =
    c.places_among-places.ensures
    ∙ ap (λ (scopes : List Scope). places_among no_places c.args.reached.now scopes) (c.as_slice-2.ensures ∙ c.in_ok-scopes.ensures)
    ∙ places_among-reached c.args.directives.now c.args.reached.now c.args.modules.now
