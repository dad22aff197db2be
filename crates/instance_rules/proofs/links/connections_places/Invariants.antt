use Rattle.std.proofs.Common.{ℕ, List}
use Rattle.std.specs.List.{enumerate_from, flat_map}
use Rattle.instance_rules.specs.Links.{named_link, ports_of}
use Rattle.instance_rules.specs.Walks.{links_places}
use Rattle.instance_rules.proofs.Seeing.{IsSeenFrom}
use Rattle.instance_rules.proofs.links.connections_places.Given as goal

abbrev pub invariant-loop-index : goal.invariant-loop-index
invariant-loop-index l = (counts : List ℕ) → IsSeenFrom
    (λ rule connection. links_places rule l.scope (ports_of l.tables counts l.master) (named_link (ports_of l.tables counts l.master) connection))
    l.connections
    (λ rule. links_places rule l.scope (ports_of l.tables counts l.master) (flat_map (named_link (ports_of l.tables counts l.master)) (enumerate_from 0 l.connections)))
    l.index l.places
