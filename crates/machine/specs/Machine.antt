-- Machines: plain data, with one state for each cell of a flat netlist. Their start is this project's own.
use Rattle.std.specs.Prelude.{ℕ, ◌+◌, ◌-◌, Bool, false, nat_eq, nat_lt, if◌then◌else◌, List, [], ◌∷◌, length, map, replicate, None, slice_index_or}
use Rattle.std.specs.List.{range_with_len, enumerate_from}
use Rattle.level_range.specs.declared.range.Logic.TheVariants.{X}
use Rattle.level_range.specs.declared.range.Conduct.TheVariants.{Off}
use Rattle.level_range.specs.Signal.{Signal, undriven}
use Rattle.flat_net.specs.declared.kinds.Cell.{Cell}
use Rattle.flat_net.specs.declared.kinds.Cell.TheVariants.{Element as ElementCell, Island as IslandCell}
use Rattle.flat_net.specs.declared.kinds.Patch.{Patch}
use Rattle.flat_net.specs.declared.parts.Parts.{Parts}
use Rattle.flat_net.specs.Patches.{Netlist, patch_of, with_patch}
use Rattle.cell_step.specs.declared.states.NetState.{NetState}
use Rattle.cell_step.specs.declared.states.ElementState.{ElementState}
use Rattle.cell_step.specs.declared.states.IslandState.{IslandState}
use Rattle.cell_step.specs.declared.states.CellState.{CellState}
use Rattle.cell_step.specs.declared.states.CellState.TheVariants.{Element, Island}
use Rattle.cell_step.specs.Readings.{Readings, net_at}
use Rattle.cell_step.specs.Elements.{element_start, drive_at, conduct_at}
use Rattle.cell_step.specs.Islands.{island_start, state_at}

-- a machine of a netlist: its time in ticks, how many passes it made at this time, whether it ever made one, the inputs
-- in force and those of its last pass (one signal for each input net), and the states of its cells, elements first
pub record Machine : Type 0 where
  pub time : ℕ
  pub passes : ℕ
  pub has_passed : Bool
  pub inputs : List Signal
  pub last_inputs : List Signal
  pub cells : List CellState

-- how many cells a netlist has
abbrev pub cell_count : Parts → ℕ
cell_count parts = length parts.elements + length parts.islands

-- the cell of a number, and the number of a cell: islands follow the elements
abbrev pub cell_of : Parts → ℕ → Cell
cell_of parts number =
    if nat_lt number (length parts.elements) then ElementCell number
    else IslandCell (number - length parts.elements)

abbrev pub number_of : Parts → Cell → ℕ
number_of parts (ElementCell number) = number
number_of parts (IslandCell number) = length parts.elements + number

-- these stand for a state where there is none of the kind
abbrev pub no_element_state : ElementState
no_element_state = record {
  out = undriven;
  on = Off;
  due = None;
  switch_due = None;
  state = X;
  seen = replicate 10 X;
}

abbrev pub no_island_state : IslandState
no_island_state = record { nets = [] }

-- the state of a cell as that of an element, or of an island
abbrev pub as_element : CellState → ElementState
as_element (Element s) = s
as_element (Island s) = no_element_state

abbrev pub as_island : CellState → IslandState
as_island (Element s) = no_island_state
as_island (Island s) = s

-- the state of a cell among those of all, by its number
abbrev pub state_among : List CellState → ℕ → CellState
state_among cells number = slice_index_or cells number (Island no_island_state)

-- the state of a machine's cell
abbrev pub cell_state : Machine → ℕ → CellState
cell_state m number = state_among m.cells number

-- the state of a net, which stands at its place in its island
abbrev pub net_state : Parts → List CellState → ℕ → NetState
net_state parts cells net =
    let part = net_at parts net in
    state_at (as_island (state_among cells (number_of parts (IslandCell part.island)))).nets part.place

-- the input at a net, by the input nets and their signals: z where the net isn't among them
abbrev pub input_among : List ℕ → List Signal → ℕ → Signal
input_among [] signals net = undriven
input_among (input ∷ inputs) [] net = undriven
input_among (input ∷ inputs) (signal ∷ signals) net = if nat_eq input net then signal else input_among inputs signals net

-- what cells read where these inputs are in force and the cells have these states
abbrev pub readings : Netlist → List Signal → List CellState → Readings
readings netlist inputs cells = record {
  drive = λ element pin. drive_at (patch_of netlist (ElementCell element)) pin (as_element (state_among cells element));
  conduct = λ element. conduct_at (patch_of netlist (ElementCell element)) (as_element (state_among cells element));
  seen = λ net. (net_state netlist.parts cells net).seen;
  input = λ net. input_among netlist.parts.inputs inputs net;
}

-- the states of all cells, each changed by its number
unfoldable pub map_cells : (ℕ → CellState → CellState) → List CellState → List CellState
map_cells change cells = map (λ (cell : ℕ × CellState). change cell.0 cell.1) (enumerate_from 0 cells)

-- a cell at the start
abbrev pub cell_start : Netlist → Cell → CellState
cell_start netlist (ElementCell number) = Element (element_start netlist.parts number (patch_of netlist (ElementCell number)))
cell_start netlist (IslandCell number) = Island (island_start netlist.parts number)

-- a machine at the start: the time is 0, no pass was made, and all inputs are z
unfoldable pub start : Netlist → Machine
start netlist = record {
  time = 0;
  passes = 0;
  has_passed = false;
  inputs = replicate (length netlist.parts.inputs) undriven;
  last_inputs = replicate (length netlist.parts.inputs) undriven;
  cells = map (λ number. cell_start netlist (cell_of netlist.parts number)) (range_with_len 0 (cell_count netlist.parts));
}

-- a machine that begins a time with these inputs in force
abbrev pub begin : ℕ → List Signal → Machine → Machine
begin time inputs m = record m { time = time; passes = 0; inputs = inputs }

-- a faulty netlist: one cell has another patch
abbrev pub inject : Netlist → Cell → Patch → Netlist
inject netlist cell patch = with_patch netlist cell patch
