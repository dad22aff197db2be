-- Which cells a pass can change, and where a fault shows.
use Rattle.std.specs.Prelude.{◌≡◌, ◌≢◌, ◌⊎◌, ℕ, true, false, Contains}
use Rattle.flat_net.specs.declared.kinds.Cell.{Cell}
use Rattle.flat_net.specs.declared.kinds.Cell.TheVariants.{Element as ElementCell, Island as IslandCell}
use Rattle.flat_net.specs.declared.parts.Drive.{Drive}
use Rattle.flat_net.specs.declared.parts.Island.{Island}
use Rattle.flat_net.specs.declared.parts.Parts.{Parts}
use Rattle.flat_net.specs.Patches.{Netlist}
use Rattle.cell_step.specs.Readings.{Readings, AgreeAtElement, AgreeAtIsland, element_at, net_at, island_at}
use Rattle.machine.specs.Machine.{Machine, cell_of, cell_state, readings}
use Rattle.machine.specs.Pass.{is_cell_due, next_readings, pass}

-- what cells read after a pass: between passes a machine still has its outputs, its seen signals and the inputs of its
-- last pass
abbrev pub last_readings : Netlist → Machine → Readings
last_readings netlist m = readings netlist m.last_inputs m.cells

-- the two agree on what the cell reads
abbrev pub AgreeAt : Parts → Cell → Readings → Readings → Type 0
AgreeAt parts (ElementCell number) r s = AgreeAtElement (element_at parts number) r s
AgreeAt parts (IslandCell number) r s = AgreeAtIsland (island_at parts number) r s

-- something that the cell reads in the next pass isn't what it was in the last
abbrev pub ReadsChange : Netlist → Machine → Cell → Type 0
ReadsChange netlist m cell = ¬ AgreeAt netlist.parts cell (last_readings netlist m) (next_readings netlist m cell)

-- the next pass touches a cell where it is the machine's first, where a change or a timer of the cell is due, and where
-- the cell reads a change
abbrev pub IsTouched : Netlist → Machine → ℕ → Type 0
IsTouched netlist m number =
    (m.has_passed ≡ false) ⊎ (is_cell_due m.time (cell_state m number) ≡ true)
    ⊎ ReadsChange netlist m (cell_of netlist.parts number)

-- the element is among those that drive or join the nets of the island
abbrev pub IsReadBy : Island → ℕ → Type 0
IsReadBy island element =
    ((drive : Drive) × Contains island.drives drive × (drive.element ≡ element)) ⊎ Contains island.links element

-- an element reads the islands of its input nets, and an island the elements that drive or join its nets
abbrev pub CellReads : Parts → Cell → Cell → Type 0
CellReads parts (ElementCell element) (IslandCell island) =
    (net : ℕ) × Contains (element_at parts element).ins net × ((net_at parts net).island ≡ island)
CellReads parts (IslandCell island) (ElementCell element) = IsReadBy (island_at parts island) element
CellReads parts (ElementCell element) (ElementCell other) = ⊥
CellReads parts (IslandCell island) (IslandCell other) = ⊥

-- the same of the numbers of two cells
abbrev pub Reads : Parts → ℕ → ℕ → Type 0
Reads parts number other = CellReads parts (cell_of parts number) (cell_of parts other)

-- a fault shows at a cell where it is the fault's site, or its state in the faulty machine isn't that in the good one
abbrev pub Shows : ℕ → Machine → Machine → ℕ → Type 0
Shows site good faulty number = (number ≡ site) ⊎ (cell_state faulty number ≢ cell_state good number)

-- a fault shows at a cell before the next pass of the two machines or after it
abbrev pub ShowsAround : Netlist → Netlist → ℕ → Machine → Machine → ℕ → Type 0
ShowsAround netlist injected site good faulty number =
    Shows site good faulty number ⊎ Shows site (pass netlist good) (pass injected faulty) number

-- a fault is visible at a cell in the next pass where it is the fault's site, or where the fault shows before or after
-- that pass at the cell or at one that the cell reads
abbrev pub IsVisible : Netlist → Netlist → ℕ → Machine → Machine → ℕ → Type 0
IsVisible netlist injected site good faulty number =
    (number ≡ site) ⊎ ShowsAround netlist injected site good faulty number
    ⊎ ((other : ℕ) × Reads netlist.parts number other × ShowsAround netlist injected site good faulty other)
