use Rattle.std.proofs.Common.{◌≡◌, drop}
use Rattle.std.specs.List.{flat_map, enumerate_from}
use Rattle.rule_places.specs.Places.{earliest, first_place}
use Rattle.module_graph.specs.Rules.{leads_back, places_in, reached_places}
use Rattle.module_graph.proofs.circles.circular_among.Given as goal

abbrev pub invariant-loop-module : goal.invariant-loop-module
invariant-loop-module l =
    first_place (reached_places (λ index r. leads_back l.references index r.master) l.references l.reached)
    ≡ earliest l.first (first_place (flat_map (places_in (λ index r. leads_back l.references index r.master) l.reached) (enumerate_from l.module (drop l.module l.references))))
