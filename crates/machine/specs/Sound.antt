-- What holds of every machine of a sound netlist, from its start on.
use Rattle.std.specs.Prelude.{◌≡◌, ℕ, ◌<◌, true, List, length, All}
use Rattle.level_range.specs.Signal.{Signal, IsSignal}
use Rattle.flat_net.specs.declared.parts.Parts.{Parts}
use Rattle.flat_net.specs.Patches.{Netlist}
use Rattle.cell_step.specs.Fitting.{FitsCell, HasSignals}
use Rattle.machine.specs.Machine.{Machine, cell_count, cell_of, cell_state}
use Rattle.machine.specs.Pass.{cell_after}
use Rattle.machine.specs.Touched.{last_readings}

-- a signal for each input net
pub record AreInputs (parts : Parts) (inputs : List Signal) : Type 0 where
  pub count : length inputs ≡ length parts.inputs
  pub signals : All IsSignal inputs

-- a cell at rest: its part in a pass, done again at any time from what it read in the last, changes nothing
abbrev pub Rests : Netlist → Machine → ℕ → Type 0
Rests netlist m number =
    (later : ℕ)
    → cell_after netlist (cell_of netlist.parts number) later (last_readings netlist m) (cell_state m number)
    ≡ cell_state m number

-- a machine of the netlist: a state for each cell, which fits it, and signals in all places; once it made a pass each
-- cell is at rest
pub record IsMachine (netlist : Netlist) (m : Machine) : Type 0 where
  pub count : length m.cells ≡ cell_count netlist.parts
  pub fits :
      (number : ℕ) → number < cell_count netlist.parts
      → FitsCell netlist.parts (cell_of netlist.parts number) (cell_state m number)
  pub signals : All HasSignals m.cells
  pub inputs : AreInputs netlist.parts m.inputs
  pub last_inputs : AreInputs netlist.parts m.last_inputs
  pub rests : m.has_passed ≡ true → (number : ℕ) → number < cell_count netlist.parts → Rests netlist m number
