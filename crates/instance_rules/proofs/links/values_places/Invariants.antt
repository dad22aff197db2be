use Rattle.std.proofs.Common.{ℕ, List}
use Rattle.std.specs.List.{enumerate_from, flat_map}
use Rattle.instance_rules.specs.Links.{ordered_link, ports_of}
use Rattle.instance_rules.specs.Walks.{links_places}
use Rattle.instance_rules.proofs.Seeing.{IsSeenFrom}
use Rattle.instance_rules.proofs.links.values_places.Given as goal

abbrev pub invariant-loop-index : goal.invariant-loop-index
invariant-loop-index l = (counts : List ℕ) → IsSeenFrom
    (λ rule value. links_places rule l.scope (ports_of l.tables counts l.master) (ordered_link value))
    l.values
    (λ rule. links_places rule l.scope (ports_of l.tables counts l.master) (flat_map ordered_link (enumerate_from 0 l.values)))
    l.index l.places
