use Rattle.std.proofs.Common.{◌≡◌, List, drop}
use Rattle.v_tree.specs.declared.locations.Name.{Name}
use Rattle.rule_places.specs.Places.{earliest, first_place, places_where}
use Rattle.module_graph.specs.Names.{has_earlier}
use Rattle.module_graph.specs.Tokens.{HasTokens}
use Rattle.module_graph.proofs.repeated.repeated_udp.Given as goal

abbrev pub invariant-loop-udp : goal.invariant-loop-udp
invariant-loop-udp l = (names : List Name) → HasTokens names l.table →
    first_place (places_where (λ x. has_earlier names x.name) (λ x. x.name.location) l.udps)
    ≡ earliest l.first (first_place (places_where (λ x. has_earlier names x.name) (λ x. x.name.location) (drop l.udp-index l.udps)))
