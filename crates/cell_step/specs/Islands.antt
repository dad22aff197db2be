-- Islands: what drives their nets, how they settle in a pass, and their start, with their patches.
use Rattle.std.specs.Prelude.{ℕ, pos, negsuc, Bool, nat_eq, if◌then◌else◌, List, [], ◌∷◌, length, map, filter, Option, Some, None, slice_index_or}
use Rattle.std.specs.List.{range_with_len}
use Rattle.level_range.specs.declared.range.Conduct.{Conduct}
use Rattle.level_range.specs.Signal.{Signal, undriven}
use Rattle.level_range.specs.Combine.{combination_of}
use Rattle.net_settle.specs.Charges.{signal_at, driven_signals, island_signals, charges_left}
use Rattle.flat_net.specs.declared.kinds.Patch.{Patch}
use Rattle.flat_net.specs.declared.kinds.Patch.TheVariants.{Whole, NetStuck, InStuck, OutStuck, Open, Closed}
use Rattle.flat_net.specs.declared.kinds.NetKind.{NetKind}
use Rattle.flat_net.specs.declared.kinds.NetKind.TheVariants.{Wire, And, Or, Tri0, Tri1, Supply0, Supply1, Trireg}
use Rattle.flat_net.specs.declared.parts.NetPart.{NetPart}
use Rattle.flat_net.specs.declared.parts.Drive.{Drive}
use Rattle.flat_net.specs.declared.parts.Island.{Island}
use Rattle.flat_net.specs.declared.parts.Parts.{Parts}
use Rattle.flat_net.specs.Islands.{combination_kind}
use Rattle.cell_step.specs.declared.states.NetState.{NetState}
use Rattle.cell_step.specs.declared.states.IslandState.{IslandState}
use Rattle.cell_step.specs.Readings.{Readings, net_at, island_at}
use Rattle.cell_step.specs.Elements.{stuck_signal}
use Rattle.cell_step.specs.Nets.{next_net, net_start}

-- the driver that a net has by its type (IEEE 1364-2005, 4.6.5 and 4.6.6)
abbrev pub own_driver : NetKind → Signal
own_driver Tri0 = record { lo = negsuc 4; hi = negsuc 4 }
own_driver Tri1 = record { lo = pos 5; hi = pos 5 }
own_driver Supply0 = record { lo = negsuc 6; hi = negsuc 6 }
own_driver Supply1 = record { lo = pos 7; hi = pos 7 }
own_driver Wire = undriven
own_driver And = undriven
own_driver Or = undriven
own_driver Trireg = undriven

-- what is driven at a place of an island
abbrev pub drives_at : Readings → List Drive → ℕ → List Signal
drives_at r drives place =
    map (λ (drive : Drive). r.drive drive.element drive.pin) (filter (λ (drive : Drive). nat_eq drive.place place) drives)

-- the drivers of a net: its own, the input in force, and the output pins
abbrev pub drivers : Readings → Island → NetKind → ℕ → ℕ → List Signal
drivers r island kind net place = own_driver kind ∷ r.input net ∷ drives_at r island.drives place

-- the combination of the drivers of a net (IEEE 1364-2005, 7.10)
abbrev pub driver_signal : Readings → Island → NetKind → ℕ → ℕ → Signal
driver_signal r island kind net place = combination_of (combination_kind kind) (drivers r island kind net place)

-- at what a net is stuck
abbrev pub net_stuck : Patch → ℕ → Option Bool
net_stuck (NetStuck stuck v) net = if nat_eq stuck net then Some v else None
net_stuck Whole net = None
net_stuck (InStuck pin v) net = None
net_stuck (OutStuck pin v) net = None
net_stuck Open net = None
net_stuck Closed net = None

-- a stuck net has Su0 or Su1 in place of its drivers
abbrev pub unless_stuck : Option Bool → Signal → Signal
unless_stuck (Some v) signal = stuck_signal 7 v
unless_stuck None signal = signal

-- the own signal of the net at a place of an island
abbrev pub own_signal : Parts → Readings → Patch → Island → ℕ → Signal
own_signal parts r patch island place =
    let net = slice_index_or island.nets place 0 in
    unless_stuck (net_stuck patch net) (driver_signal r island (net_at parts net).kind net place)

-- the own signals of the nets of an island
abbrev pub own_signals : Parts → Readings → Patch → Island → List Signal
own_signals parts r patch island = map (own_signal parts r patch island) (range_with_len 0 (length island.nets))

-- stands for a net's state where there is none
abbrev pub no_state : NetState
no_state = net_start 0

abbrev pub state_at : List NetState → ℕ → NetState
state_at states place = slice_index_or states place no_state

-- the charges of nets
abbrev pub charges_of : List NetState → List Signal
charges_of states = map (λ (s : NetState). s.charge) states

-- the net at a place of an island, by its part
abbrev pub part_at : Parts → Island → ℕ → NetPart
part_at parts island place = net_at parts (slice_index_or island.nets place 0)

-- nets after settling, whose driven and settled signals and charges are given
unfoldable pub nets_after : Parts → Island → ℕ → List Signal → List Signal → List Signal → List NetState → List NetState
nets_after parts island now driven signals charges states =
    map (λ place. next_net (part_at parts island place) now (signal_at driven place) (signal_at signals place)
    (signal_at charges place) (state_at states place)) (range_with_len 0 (length island.nets))

-- the island with these own signals of its nets, whose switches conduct so
unfoldable pub next_island : Parts → Island → ℕ → List Signal → List Conduct → IslandState → IslandState
next_island parts island now own on s =
    let charges = charges_of s.nets in
    let signals = island_signals island.shape on own charges in
    record {
      nets =
          nets_after parts island now (driven_signals island.shape on own) signals
          (charges_left island.shape.charge charges signals) s.nets;
    }

-- an island of the netlist after its part in a pass
abbrev pub island_after : Parts → ℕ → Patch → ℕ → Readings → IslandState → IslandState
island_after parts number patch now r s =
    let island = island_at parts number in
    next_island parts island now (own_signals parts r patch island) (map r.conduct island.links) s

-- an island at the start, by the charge levels of its nets
abbrev pub island_start : Parts → ℕ → IslandState
island_start parts number = record { nets = map net_start (island_at parts number).shape.charge }
