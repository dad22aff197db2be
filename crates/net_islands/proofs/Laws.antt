-- What soundness says of islands holds of all parts with the islands of the definition.
use Rattle.std.proofs.Common.{◌≡◌, ℕ, Bool, List, length, sym, subst}
use Rattle.std.specs.Prelude.{◌↔◌}
use Rattle.std.specs.Option.{IsSome}
use Rattle.std.specs.List.{All, Contains}
use Rattle.net_groups.specs.Joins.{IsJoined, AreGroups}
use Rattle.flat_net.specs.Lists.{EachAt, AreDistinct}
use Rattle.flat_net.specs.declared.parts.Element.{Element}
use Rattle.flat_net.specs.declared.parts.Island.{Island}
use Rattle.flat_net.specs.Elements.{switch_ends}
use Rattle.flat_net.specs.Islands.{IsIsland, drive_pins, link_elements}
use Rattle.flat_net.specs.Soundness.{AreJoined, AreDriven, AreLinked, island_of}
use Rattle.net_islands.specs.declared.parts.NetClass.{NetClass}
use Rattle.net_islands.specs.Leasts.{leasts}
use Rattle.net_islands.specs.Islands.{HasNets, grouping}
use Rattle.net_islands.specs.Parts.{AreIslands, ArePlaces, Gives, StandsAt}
use Rattle.net_islands.proofs.ItemLemmas.{AreBelow-ends}
use Rattle.net_islands.proofs.LeastLemmas.{AreGroups-leasts}
use Rattle.net_islands.proofs.IslandLaws.{EachAt-islands, EachAt-stands, joins}
use Rattle.net_islands.proofs.DistinctLaws.{drives-once, drives-each, links-once, links-each}

module _ (nets : List NetClass) (elements : List Element) (resistive : List Bool) (valid : All (HasNets (length nets)) elements) where
  abbrev least : List ℕ
  least = leasts (length nets) (switch_ends elements)

  groups : AreGroups (length nets) (switch_ends elements) least
  groups = AreGroups-leasts (length nets) (switch_ends elements) (AreBelow-ends (length nets) elements valid)

  pub Gives-islands : Gives AreIslands nets elements (grouping nets elements resistive)
  Gives-islands parts h =
      let each = EachAt-islands nets elements resistive least groups parts.nets h.nets h.places valid in
      subst (λ (is : List Island). EachAt (IsIsland parts.nets parts.elements) is) (sym h.islands)
      (subst (λ (es : List Element). EachAt (IsIsland parts.nets es) (grouping nets elements resistive).islands) (sym h.same_elements) each)

  pub Gives-places : Gives ArePlaces nets elements (grouping nets elements resistive)
  Gives-places parts h =
      subst (λ (is : List Island). EachAt (StandsAt is) parts.nets) (sym h.islands)
      (EachAt-stands nets elements resistive least groups parts.nets h.nets h.places)

  pub Gives-joined : Gives AreJoined nets elements (grouping nets elements resistive)
  Gives-joined parts h a b a-lt b-lt =
      subst (λ (es : List Element). (island_of parts.nets a ≡ island_of parts.nets b) ↔ IsJoined (switch_ends es) a b) (sym h.same_elements)
      (joins nets elements resistive least groups parts.nets h.nets h.places a b a-lt b-lt)

  pub Gives-drives : Gives AreDriven nets elements (grouping nets elements resistive)
  Gives-drives parts h = record {
    once = subst (λ (is : List Island). AreDistinct (drive_pins is)) (sym h.islands) (drives-once nets elements resistive least groups);
    each = subst (λ (es : List Element). EachAt (λ element e. EachAt (λ pin net. Contains (drive_pins parts.islands) (element, pin)) e.outs) es) (sym h.same_elements)
        (subst (λ (is : List Island). EachAt (λ element e. EachAt (λ pin net. Contains (drive_pins is) (element, pin)) e.outs) elements) (sym h.islands)
        (drives-each nets elements resistive least groups valid));
  }

  pub Gives-links : Gives AreLinked nets elements (grouping nets elements resistive)
  Gives-links parts h = record {
    once = subst (λ (is : List Island). AreDistinct (link_elements is)) (sym h.islands) (links-once nets elements resistive least groups);
    each = subst (λ (es : List Element). EachAt (λ element e. IsSome e.ends → Contains (link_elements parts.islands) element) es) (sym h.same_elements)
        (subst (λ (is : List Island). EachAt (λ element e. IsSome e.ends → Contains (link_elements is) element) elements) (sym h.islands)
        (links-each nets elements resistive least groups valid));
  }
