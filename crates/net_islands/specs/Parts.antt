-- The parts of a flat netlist whose islands are those of a grouping.
use Rattle.std.specs.Prelude.{◌≡◌, ℕ, List, map, Some, slice_get}
use Rattle.std.specs.Option.{IsSomeAnd}
use Rattle.flat_net.specs.Lists.{EachAt}
use Rattle.flat_net.specs.Islands.{IsIsland}
use Rattle.flat_net.specs.declared.parts.NetPart.{NetPart}
use Rattle.flat_net.specs.declared.parts.Element.{Element}
use Rattle.flat_net.specs.declared.parts.Island.{Island}
use Rattle.flat_net.specs.declared.parts.Parts.{Parts}
use Rattle.net_islands.specs.declared.parts.NetClass.{NetClass}
use Rattle.net_islands.specs.declared.parts.NetPlace.{NetPlace}
use Rattle.net_islands.specs.declared.parts.Grouping.{Grouping}

-- what a net is before its island is known
abbrev pub class_of : NetPart → NetClass
class_of part = record { kind = part.kind; charge = part.charge }

-- where a net stands
abbrev pub place_of : NetPart → NetPlace
place_of part = record { island = part.island; place = part.place }

-- the parts have nets of these classes and these elements, and the islands and the places of the grouping
pub record AreGrouped (classes : List NetClass) (elements : List Element) (grouping : Grouping) (parts : Parts) : Type 0 where
  pub nets : map class_of parts.nets ≡ classes
  pub same_elements : parts.elements ≡ elements
  pub places : map place_of parts.nets ≡ grouping.places
  pub islands : parts.islands ≡ grouping.islands

-- the net stands at its place in its island
abbrev pub StandsAt : List Island → ℕ → NetPart → Type 0
StandsAt islands number part = IsSomeAnd (slice_get islands part.island) (λ island. slice_get island.nets part.place ≡ Some number)

-- the islands are each one of the netlist
abbrev pub AreIslands : Parts → Type 0
AreIslands parts = EachAt (IsIsland parts.nets parts.elements) parts.islands

-- each net stands at its place in its island
abbrev pub ArePlaces : Parts → Type 0
ArePlaces parts = EachAt (StandsAt parts.islands) parts.nets

-- the fact holds of all parts with the islands and the places of the grouping
abbrev pub Gives : (Parts → Type 0) → List NetClass → List Element → Grouping → Type 0
Gives P nets elements grouping = (parts : Parts) → AreGrouped nets elements grouping parts → P parts
