-- For the code and its proofs alone: the phases of a pass on lists of elements and of islands.
use Rattle.std.specs.Prelude.{ℕ, List, map}
use Rattle.level_range.specs.Signal.{Signal}
use Rattle.flat_net.specs.declared.kinds.Cell.TheVariants.{Element as ElementCell, Island as IslandCell}
use Rattle.flat_net.specs.Patches.{Netlist}
use Rattle.cell_step.specs.declared.states.CellState.{CellState}
use Rattle.cell_step.specs.Changes.{mature_cell}
use Rattle.machine.specs.Machine.{map_cells}
use Rattle.machine.specs.Pass.{cell_after}
use Rattle.plain_sim.specs.Lists.{read_by_islands, read_by_elements}

-- the states after what is due has taken effect
abbrev pub ripe : ℕ → List CellState → List CellState
ripe now cells = map (mature_cell now) cells

-- the islands settle from the elements and from the inputs in force at the nets
abbrev pub islands_after : Netlist → ℕ → List Signal → List CellState → List CellState → List CellState
islands_after netlist now forced elements islands =
    map_cells (λ number s. cell_after netlist (IslandCell number) now (read_by_islands netlist elements forced) s) islands

-- the elements compute their targets from the islands
abbrev pub elements_after : Netlist → ℕ → List CellState → List CellState → List CellState
elements_after netlist now islands elements =
    map_cells (λ number s. cell_after netlist (ElementCell number) now (read_by_elements netlist islands) s) elements
