-- For the code and its proofs alone: the states of elements and of islands in lists of their own, and what cells read of
-- these lists.
use Rattle.std.specs.Prelude.{◌≡◌, ◌≢◌, ◌<◌, ◌≤◌, ℕ, Bool, true, false, List, length, slice_index_or}
use Rattle.level_range.specs.declared.range.Conduct.TheVariants.{Off}
use Rattle.level_range.specs.Signal.{Signal, undriven}
use Rattle.flat_net.specs.declared.kinds.Cell.{Cell}
use Rattle.flat_net.specs.declared.kinds.Cell.TheVariants.{Element as ElementCell, Island as IslandCell}
use Rattle.flat_net.specs.declared.parts.Parts.{Parts}
use Rattle.flat_net.specs.Patches.{Netlist, patch_of}
use Rattle.cell_step.specs.declared.states.NetState.{NetState}
use Rattle.cell_step.specs.declared.states.CellState.{CellState}
use Rattle.cell_step.specs.declared.states.CellState.TheVariants.{Element, Island}
use Rattle.cell_step.specs.Readings.{Readings, net_at, island_at}
use Rattle.cell_step.specs.Rooms.{Room}
use Rattle.cell_step.specs.Elements.{drive_at, conduct_at}
use Rattle.cell_step.specs.Islands.{state_at}
use Rattle.cell_step.specs.Fitting.{FitsCell}
use Rattle.machine.specs.Machine.{as_element, as_island, state_among, input_among}

-- so many states, the number-th of which fits the cell of the number
pub record FitEach (parts : Parts) (cell : ℕ → Cell) (many : ℕ) (states : List CellState) : Type 0 where
  pub count : length states ≡ many
  pub fits : (number : ℕ) → number < many → FitsCell parts (cell number) (state_among states number)

-- a state for each element, and for each island
abbrev pub AreElements : Parts → List CellState → Type 0
AreElements parts states = FitEach parts ElementCell (length parts.elements) states

abbrev pub AreIslands : Parts → List CellState → Type 0
AreIslands parts states = FitEach parts IslandCell (length parts.islands) states

-- each element has the state of an element
abbrev pub is_element : CellState → Bool
is_element (Element s) = true
is_element (Island s) = false

abbrev pub HasElements : Parts → List CellState → Type 0
HasElements parts elements = (number : ℕ) → number < length parts.elements → is_element (state_among elements number) ≡ true

-- each net has a state at its place in its island
abbrev pub HasNets : Parts → List CellState → Type 0
HasNets parts islands =
    (net : ℕ) → net < length parts.nets
    → (net_at parts net).place < length (as_island (state_among islands (net_at parts net).island)).nets

-- a signal for each net
abbrev pub AreForcedNets : Parts → List Signal → Type 0
AreForcedNets parts forced = length forced ≡ length parts.nets

-- each is the input in force at the net, by the input nets and their signals
abbrev pub AreForcedBy : List ℕ → List Signal → List Signal → Type 0
AreForcedBy nets inputs forced =
    (net : ℕ) → net < length forced → slice_index_or forced net undriven ≡ input_among nets inputs net

-- the nets that are no inputs have z
abbrev pub AreUndrivenElsewhere : List ℕ → List Signal → Type 0
AreUndrivenElsewhere nets forced =
    (net : ℕ) → net < length forced → ((k : ℕ) → k < length nets → slice_index_or nets k 0 ≢ net)
    → slice_index_or forced net undriven ≡ undriven

pub record AreForced (parts : Parts) (inputs forced : List Signal) : Type 0 where
  pub count : AreForcedNets parts forced
  pub signals : AreForcedBy parts.inputs inputs forced

-- there is room for each island
abbrev pub HasRoomForIsland : Parts → Room → ℕ → Type 0
HasRoomForIsland parts room number =
    (length (island_at parts number).nets ≤ room.nets) × (length (island_at parts number).links ≤ room.links)

abbrev pub HasRoom : Parts → Room → Type 0
HasRoom parts room = (number : ℕ) → number < length parts.islands → HasRoomForIsland parts room number

-- the state of a net among those of the islands
abbrev pub net_among : Parts → List CellState → ℕ → NetState
net_among parts islands net =
    let part = net_at parts net in state_at (as_island (state_among islands part.island)).nets part.place

-- what islands read: the outputs and the conduction of elements, and the inputs in force at the nets
abbrev pub read_by_islands : Netlist → List CellState → List Signal → Readings
read_by_islands netlist elements forced = record {
  drive = λ element pin. drive_at (patch_of netlist (ElementCell element)) pin (as_element (state_among elements element));
  conduct = λ element. conduct_at (patch_of netlist (ElementCell element)) (as_element (state_among elements element));
  seen = λ net. undriven;
  input = λ net. slice_index_or forced net undriven;
}

-- what elements read: the signals that are seen of nets
abbrev pub read_by_elements : Netlist → List CellState → Readings
read_by_elements netlist islands = record {
  drive = λ element pin. undriven;
  conduct = λ element. Off;
  seen = λ net. (net_among netlist.parts islands net).seen;
  input = λ net. undriven;
}
