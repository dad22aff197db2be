-- Locality: the state of a cell after a pass is a function of its own state, its patch, the time and what it reads.
use Rattle.std.proofs.Common.{◌≡◌, ℕ, ◌<◌, length, ap, sym, ◌∙◌}
use Rattle.flat_net.specs.declared.kinds.Cell.{Cell}
use Rattle.flat_net.specs.declared.kinds.Cell.TheVariants.{Element as ElementCell, Island as IslandCell}
use Rattle.flat_net.specs.declared.kinds.Patch.{Patch}
use Rattle.flat_net.specs.declared.parts.Parts.{Parts}
use Rattle.flat_net.specs.Patches.{Netlist, patch_of}
use Rattle.cell_step.specs.declared.states.CellState.{CellState}
use Rattle.cell_step.specs.declared.states.CellState.TheVariants.{Element, Island}
use Rattle.cell_step.specs.Readings.{Readings}
use Rattle.cell_step.specs.Changes.{mature_cell}
use Rattle.cell_step.specs.Elements.{element_after}
use Rattle.cell_step.specs.Islands.{island_after}
use Rattle.cell_step.proofs.Locality.{element_after-local, island_after-local}
use Rattle.machine.specs.Machine.{Machine, cell_of, cell_state, as_element, as_island}
use Rattle.machine.specs.Pass.{cell_after, pass, next_readings, next_cell}
use Rattle.machine.specs.Touched.{AgreeAt}
use Rattle.machine.proofs.PassAt.{pass-at}

pub cell_after-local : (netlist : Netlist) (cell : Cell) (now : ℕ) (r s : Readings) (state : CellState) →
    AgreeAt netlist.parts cell r s → cell_after netlist cell now r state ≡ cell_after netlist cell now s state
cell_after-local netlist (ElementCell number) now r s state agree =
    ap Element (element_after-local netlist.parts number (patch_of netlist (ElementCell number)) now r s (as_element state) agree)
cell_after-local netlist (IslandCell number) now r s state agree =
    ap Island (island_after-local netlist.parts number (patch_of netlist (IslandCell number)) now r s (as_island state) agree)

-- two netlists with the same parts, in which the cell has the same patch
pub cell_after-patch : (one other : Netlist) (cell : Cell) (now : ℕ) (r : Readings) (state : CellState) →
    one.parts ≡ other.parts → patch_of one cell ≡ patch_of other cell → cell_after one cell now r state ≡ cell_after other cell now r state
cell_after-patch one other (ElementCell number) now r state parts patch =
    ap (λ (p : Parts). Element (element_after p number (patch_of one (ElementCell number)) now r (as_element state))) parts
    ∙ ap (λ (p : Patch). Element (element_after other.parts number p now r (as_element state))) patch
cell_after-patch one other (IslandCell number) now r state parts patch =
    ap (λ (p : Parts). Island (island_after p number (patch_of one (IslandCell number)) now r (as_island state))) parts
    ∙ ap (λ (p : Patch). Island (island_after other.parts number p now r (as_island state))) patch

-- what the state of a cell after a pass depends on, in two machines whose netlists differ at most in their patches
pub record AreAlikeAt (one other : Netlist) (m n : Machine) (number : ℕ) : Type 0 where
  pub patch : patch_of one (cell_of one.parts number) ≡ patch_of other (cell_of one.parts number)
  pub time : m.time ≡ n.time
  pub state : cell_state m number ≡ cell_state n number
  pub reads :
      AgreeAt one.parts (cell_of one.parts number) (next_readings one m (cell_of one.parts number))
      (next_readings other n (cell_of one.parts number))

pub next_cell-local : (one other : Netlist) (m n : Machine) (number : ℕ) → one.parts ≡ other.parts → AreAlikeAt one other m n number →
    next_cell one m number ≡ next_cell other n number
unfolding next_cell
next_cell-local one other m n number parts alike =
    let cell : Cell = cell_of one.parts number in
    let now : ℕ = m.time in
    let state : CellState = mature_cell m.time (cell_state m number) in
    cell_after-local one cell now (next_readings one m cell) (next_readings other n cell) state alike.reads
    ∙ cell_after-patch one other cell now (next_readings other n cell) state parts alike.patch
    ∙ ap (λ (t : ℕ). cell_after other cell t (next_readings other n cell) (mature_cell t (cell_state m number))) alike.time
    ∙ ap (λ (s : CellState). cell_after other cell n.time (next_readings other n cell) (mature_cell n.time s)) alike.state
    ∙ ap (λ (p : Parts). cell_after other (cell_of p number) n.time (next_readings other n (cell_of p number)) (mature_cell n.time (cell_state n number))) parts

pub pass-local : (one other : Netlist) (m n : Machine) (number : ℕ) → one.parts ≡ other.parts → number < length m.cells → number < length n.cells →
    AreAlikeAt one other m n number → cell_state (pass one m) number ≡ cell_state (pass other n) number
pass-local one other m n number parts inside within alike =
    pass-at one m number inside ∙ next_cell-local one other m n number parts alike ∙ sym (pass-at other n number within)
