-- A pass: two phases over all cells of a machine, at its time. What is due is pending for that time or an earlier one. The
-- order inside a time step is this project's own.
use Rattle.std.specs.Prelude.{ℕ, ◌+◌, ◌-◌, ◌^◌, min, Bool, true, false, ◌||◌, nat_le, if◌then◌else◌, List, [], ◌∷◌, ◌++◌, map, Option, Some, None}
use Rattle.std.specs.List.{list_any, flat_map}
use Rattle.delay_rule.specs.declared.inertia.Pending.{Pending}
use Rattle.flat_net.specs.declared.kinds.Cell.{Cell}
use Rattle.flat_net.specs.declared.kinds.Cell.TheVariants.{Element as ElementCell, Island as IslandCell}
use Rattle.flat_net.specs.Patches.{Netlist, patch_of}
use Rattle.cell_step.specs.declared.states.Timer.{Timer}
use Rattle.cell_step.specs.declared.states.Timer.TheVariants.{Idle, Running, Ended}
use Rattle.cell_step.specs.declared.states.NetState.{NetState}
use Rattle.cell_step.specs.declared.states.PassEnd.{PassEnd}
use Rattle.cell_step.specs.declared.states.PassEnd.TheVariants.{Quiet, More, Oscillates}
use Rattle.cell_step.specs.declared.states.CellState.{CellState}
use Rattle.cell_step.specs.declared.states.CellState.TheVariants.{Element, Island}
use Rattle.cell_step.specs.Readings.{Readings}
use Rattle.cell_step.specs.Changes.{is_due, is_timer_due, mature_cell}
use Rattle.cell_step.specs.Elements.{element_after}
use Rattle.cell_step.specs.Islands.{island_after}
use Rattle.machine.specs.Machine.{Machine, cell_of, cell_state, as_element, as_island, readings, map_cells}

-- a cell after its part in a pass: an element aims at its target, an island settles
abbrev pub cell_after : Netlist → Cell → ℕ → Readings → CellState → CellState
cell_after netlist (ElementCell number) now r s =
    Element (element_after netlist.parts number (patch_of netlist (ElementCell number)) now r (as_element s))
cell_after netlist (IslandCell number) now r s =
    Island (island_after netlist.parts number (patch_of netlist (IslandCell number)) now r (as_island s))

-- a cell when the islands settle
abbrev pub settle_cell : Netlist → Cell → ℕ → Readings → CellState → CellState
settle_cell netlist (ElementCell number) now r s = s
settle_cell netlist (IslandCell number) now r s = cell_after netlist (IslandCell number) now r s

-- a cell when the elements compute their targets
abbrev pub evaluate_cell : Netlist → Cell → ℕ → Readings → CellState → CellState
evaluate_cell netlist (ElementCell number) now r s = cell_after netlist (ElementCell number) now r s
evaluate_cell netlist (IslandCell number) now r s = s

-- every change that is due takes effect, and every timer that is due ends
unfoldable pub mature : Machine → Machine
mature m = record m { cells = map (mature_cell m.time) m.cells }

-- every island settles from what the elements drive and conduct, and from the inputs in force
unfoldable pub settle : Netlist → Machine → Machine
settle netlist m = record m {
  cells =
      map_cells (λ number s. settle_cell netlist (cell_of netlist.parts number) m.time (readings netlist m.inputs m.cells) s)
      m.cells;
}

-- every element computes its target from the signals that it sees
unfoldable pub evaluate : Netlist → Machine → Machine
evaluate netlist m = record m {
  cells =
      map_cells (λ number s. evaluate_cell netlist (cell_of netlist.parts number) m.time (readings netlist m.inputs m.cells) s)
      m.cells;
}

-- the first phase of a pass: what is due takes effect, and then the islands settle
unfoldable pub first_phase : Netlist → Machine → Machine
first_phase netlist m = settle netlist (mature m)

-- the number of passes at a time stops at its last value
abbrev pub one_more : ℕ → ℕ
one_more passes = min (passes + 1) (2 ^ 32 - 1)

-- a pass: the first phase, and in the second the elements compute their targets
unfoldable pub pass : Netlist → Machine → Machine
pass netlist m = record (evaluate netlist (first_phase netlist m)) {
  passes = one_more m.passes;
  has_passed = true;
  last_inputs = m.inputs;
}

-- what a cell reads in its part of the next pass: an island after what is due has taken effect, an element after the
-- first phase
abbrev pub next_readings : Netlist → Machine → Cell → Readings
next_readings netlist m (ElementCell number) = readings netlist m.inputs (first_phase netlist m).cells
next_readings netlist m (IslandCell number) = readings netlist m.inputs (mature m).cells

-- the state of one cell after the next pass
unfoldable pub next_cell : Netlist → Machine → ℕ → CellState
next_cell netlist m number =
    let cell = cell_of netlist.parts number in
    cell_after netlist cell m.time (next_readings netlist m cell) (mature_cell m.time (cell_state m number))

-- whether a change or a timer of a net is due
abbrev pub is_net_due : ℕ → NetState → Bool
is_net_due now s = is_due now s.due || is_timer_due now s.timer

-- whether a change or a timer of a cell is due
abbrev pub is_cell_due : ℕ → CellState → Bool
is_cell_due now (Element s) = is_due now s.due || is_due now s.switch_due
is_cell_due now (Island s) = list_any (is_net_due now) s.nets

-- whether something is due in a machine at its time
unfoldable pub is_machine_due : Machine → Bool
is_machine_due m = list_any (is_cell_due m.time) m.cells

-- what a pass leaves, by whether something is due, by how many passes were made at the time and by their limit: nothing is
-- due, or something is and the limit isn't reached, or it is
abbrev pub pass_end : Bool → ℕ → ℕ → PassEnd
pass_end false passes limit = Quiet
pass_end true passes limit = if nat_le limit passes then Oscillates else More

-- what it leaves of a machine
abbrev pub machine_end : ℕ → Machine → PassEnd
machine_end limit m = pass_end (is_machine_due m) m.passes limit

-- the time of a pending change, and that of a running timer
abbrev pub change_times : {V : Type 0} → Option (Pending V) → List ℕ
change_times None = []
change_times (Some change) = change.at ∷ []

abbrev pub timer_times : Timer → List ℕ
timer_times Idle = []
timer_times (Running at) = at ∷ []
timer_times Ended = []

-- the times for which something is pending in a net, and in a cell
abbrev pub net_times : NetState → List ℕ
net_times s = change_times s.due ++ timer_times s.timer

abbrev pub cell_times : CellState → List ℕ
cell_times (Element s) = change_times s.due ++ change_times s.switch_due
cell_times (Island s) = flat_map net_times s.nets

-- the times for which something is pending in a machine
unfoldable pub due_times : Machine → List ℕ
due_times m = flat_map cell_times m.cells
