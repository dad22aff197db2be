use Rattle.std.proofs.Common.{◌≡◌, drop}
use Rattle.rule_places.specs.Places.{earliest, first_place, places_where}
use Rattle.module_graph.specs.Rules.{leads_back}
use Rattle.module_graph.proofs.circles.circular_in.Given as goal

abbrev pub invariant-loop-reference : goal.invariant-loop-reference
invariant-loop-reference l =
    earliest l.fn.start (first_place (places_where (λ r. leads_back l.references l.module r.master) (λ r. r.location) l.list))
    ≡ earliest l.first (first_place (places_where (λ r. leads_back l.references l.module r.master) (λ r. r.location) (drop l.reference-index l.list)))
