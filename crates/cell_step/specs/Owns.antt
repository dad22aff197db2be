-- For the bodies and their proofs alone: the own signals of an island, joined drive by drive.
use Rattle.std.specs.Prelude.{◌≡◌, ℕ, ◌<◌, List, ◌∷◌, length, map, slice_index_or, All}
use Rattle.std.specs.List.{range_with_len}
use Rattle.level_range.specs.declared.range.Kind.TheVariants.{Plain}
use Rattle.level_range.specs.declared.range.Conduct.{Conduct}
use Rattle.level_range.specs.Signal.{Signal}
use Rattle.level_range.specs.Combine.{combination_of}
use Rattle.net_settle.specs.Charges.{signal_at, island_signals, charges_left}
use Rattle.net_settle.specs.Conditions.{IsIsland}
use Rattle.flat_net.specs.declared.kinds.Patch.{Patch}
use Rattle.flat_net.specs.declared.parts.Drive.{Drive}
use Rattle.flat_net.specs.declared.parts.Island.{Island}
use Rattle.flat_net.specs.declared.parts.Parts.{Parts}
use Rattle.flat_net.specs.Islands.{combination_kind}
use Rattle.cell_step.specs.declared.states.IslandState.{IslandState}
use Rattle.cell_step.specs.Readings.{Readings, AreNetsOf, AreDrivesOf, AreSwitchesOf}
use Rattle.cell_step.specs.Islands.{own_driver, drives_at, net_stuck, unless_stuck, part_at, charges_of}

-- the signal of a place with some of the drives
abbrev pub place_signal : Parts → Readings → Island → List Drive → ℕ → Signal
place_signal parts r island drives place =
    combination_of (combination_kind (part_at parts island place).kind)
    (own_driver (part_at parts island place).kind ∷ r.input (slice_index_or island.nets place 0) ∷ drives_at r drives place)

-- the signals of all places with some of the drives
abbrev pub driver_signals : Parts → Readings → Island → List Drive → List Signal
driver_signals parts r island drives = map (place_signal parts r island drives) (range_with_len 0 (length island.nets))

-- signals with those of stuck nets in their places
abbrev pub stick_nets : Patch → List ℕ → List Signal → List Signal
stick_nets patch nets signals =
    map (λ place. unless_stuck (net_stuck patch (slice_index_or nets place 0)) (signal_at signals place))
    (range_with_len 0 (length nets))

-- each kind of an island's shape is how the drivers of the net at its place are combined
abbrev pub HasKinds : Parts → Island → Type 0
HasKinds parts island =
    (place : ℕ) → place < length island.nets → slice_index_or island.shape.kinds place Plain ≡ combination_kind (part_at parts island place).kind

-- what the part of an island in a pass needs to know of the island and of its state
pub record CanSettle (parts : Parts) (island : Island) (s : IslandState) : Type 0 where
  pub nets : AreNetsOf parts island.nets
  pub kinds : HasKinds parts island
  pub shape : length island.shape.kinds ≡ length island.nets
  pub drives : AreDrivesOf parts island.drives
  pub places : All (λ (drive : Drive). drive.place < length island.nets) island.drives
  pub links : AreSwitchesOf parts island.links
  pub conduction : length island.links ≡ length island.shape.links
  pub states : length s.nets ≡ length island.nets
  pub settling : (nets : ℕ) → nets ≡ length island.nets → IsIsland island.shape nets (charges_of s.nets)

-- what is left of the charges of an island
abbrev pub left_charges : Island → List Signal → List Conduct → IslandState → List Signal
left_charges island own on s =
    charges_left island.shape.charge (charges_of s.nets) (island_signals island.shape on own (charges_of s.nets))
