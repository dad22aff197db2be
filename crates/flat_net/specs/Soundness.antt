-- When the parts of a flat netlist are sound.
use Rattle.std.specs.Prelude.{◌≡◌, ◌↔◌, ℕ, ◌<◌, ◌≤◌, List, [], length, map, Option, Some, slice_get}
use Rattle.std.specs.Option.{IsSomeAnd, IsSome, option_map}
use Rattle.std.specs.List.{All, Contains}
use Rattle.net_groups.specs.Joins.{IsJoined}
use Rattle.level_range.specs.declared.range.Kind.TheVariants.{Plain}
use Rattle.flat_net.specs.Lists.{EachAt, AreDistinct}
use Rattle.flat_net.specs.Elements.{IsElement, switch_ends}
use Rattle.flat_net.specs.Islands.{IsIsland, HasCharge, combination_kind, drive_pins, link_elements}
use Rattle.flat_net.specs.declared.parts.NetPart.{NetPart}
use Rattle.flat_net.specs.declared.parts.Island.{Island}
use Rattle.flat_net.specs.declared.parts.Find.{Find}
use Rattle.flat_net.specs.declared.parts.Parts.{Parts}

-- how many nets a netlist may have, and how many elements
abbrev pub greatest_count : ℕ
greatest_count = 1048576

-- the number of the island in which a net stands
abbrev pub island_of : List NetPart → ℕ → Option ℕ
island_of nets net = option_map (λ part. part.island) (slice_get nets net)

-- a net by its number: its charge fits its type, it stands at its place in its island, and a wired net stands there alone
pub record IsNet (islands : List Island) (number : ℕ) (part : NetPart) : Type 0 where
  pub charge : HasCharge part.kind part.charge
  pub place : IsSomeAnd (slice_get islands part.island) (λ island. slice_get island.nets part.place ≡ Some number)
  pub alone : ¬ (combination_kind part.kind ≡ Plain) → IsSomeAnd (slice_get islands part.island) (λ island. (length island.nets ≡ 1) × (island.links ≡ []))

-- the bytes of a name are ASCII
abbrev pub IsAscii : List ℕ → Type 0
IsAscii name = All (λ byte. byte < 128) name

-- so many ASCII names, no two the same
pub record AreNames (count : ℕ) (names : List (List ℕ)) : Type 0 where
  pub all : length names ≡ count
  pub ascii : All IsAscii names
  pub distinct : AreDistinct names

-- distinct nets of a netlist with so many
pub record AreDistinctNets (count : ℕ) (nets : List ℕ) : Type 0 where
  pub within : All (λ net. net < count) nets
  pub distinct : AreDistinct nets

-- a name finds one net or more
pub record IsFind (count : ℕ) (found : Find) : Type 0 where
  pub filled : 0 < length found.nets
  pub within : All (λ net. net < count) found.nets

-- the elements, nets and islands, each by itself
pub record AreCells (parts : Parts) : Type 0 where
  pub few_nets : length parts.nets ≤ greatest_count
  pub few_elements : length parts.elements ≤ greatest_count
  pub elements : All (IsElement (length parts.nets) parts.udps) parts.elements
  pub nets : EachAt (IsNet parts.islands) parts.nets
  pub islands : EachAt (IsIsland parts.nets parts.elements) parts.islands

-- two nets stand in one island exactly where bidirectional switches join them, over any number of steps
abbrev pub AreJoined : Parts → Type 0
AreJoined parts =
    (a b : ℕ) → a < length parts.nets → b < length parts.nets
    → (island_of parts.nets a ≡ island_of parts.nets b) ↔ IsJoined (switch_ends parts.elements) a b

-- the drives of all islands name each output pin once
pub record AreDriven (parts : Parts) : Type 0 where
  pub once : AreDistinct (drive_pins parts.islands)
  pub each : EachAt (λ element e. EachAt (λ pin net. Contains (drive_pins parts.islands) (element, pin)) e.outs) parts.elements

-- the links of all islands name each bidirectional switch once
pub record AreLinked (parts : Parts) : Type 0 where
  pub once : AreDistinct (link_elements parts.islands)
  pub each : EachAt (λ element e. IsSome e.ends → Contains (link_elements parts.islands) element) parts.elements

-- names for all nets and elements, and for what is found by a name
pub record AreNamed (parts : Parts) : Type 0 where
  pub nets : AreNames (length parts.nets) parts.net_names
  pub elements : AreNames (length parts.elements) parts.element_names
  pub finds : All (IsFind (length parts.nets)) parts.finds
  pub find_names : AreNames (length parts.finds) (map (λ found. found.name) parts.finds)

-- the parts of a flat netlist are sound
pub record IsSound (parts : Parts) : Type 0 where
  pub cells : AreCells parts
  pub joined : AreJoined parts
  pub drives : AreDriven parts
  pub links : AreLinked parts
  pub inputs : AreDistinctNets (length parts.nets) parts.inputs
  pub outputs : AreDistinctNets (length parts.nets) parts.outputs
  pub names : AreNamed parts
