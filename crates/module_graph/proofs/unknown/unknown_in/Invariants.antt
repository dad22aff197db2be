use Rattle.std.proofs.Common.{◌≡◌, drop}
use Rattle.rule_places.specs.Places.{earliest, first_place, places_where}
use Rattle.module_graph.specs.Rules.{is_unknown}
use Rattle.module_graph.proofs.unknown.unknown_in.Given as goal

abbrev pub invariant-loop-reference : goal.invariant-loop-reference
invariant-loop-reference l =
    first_place (places_where (λ r. is_unknown r.master) (λ r. r.location) l.references)
    ≡ earliest l.first (first_place (places_where (λ r. is_unknown r.master) (λ r. r.location) (drop l.reference-index l.references)))
