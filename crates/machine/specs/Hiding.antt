-- Where a fault doesn't show, by what cells read in a pass; for the proofs of engines that keep differences.
use Rattle.std.specs.Prelude.{◌≡◌, ◌≢◌, ℕ, length}
use Rattle.flat_net.specs.declared.kinds.Cell.{Cell}
use Rattle.flat_net.specs.declared.kinds.Cell.TheVariants.{Element as ElementCell, Island as IslandCell}
use Rattle.flat_net.specs.Patches.{Netlist, patch_of}
use Rattle.machine.specs.Machine.{Machine, cell_count, cell_of, cell_state}
use Rattle.machine.specs.Pass.{pass}

-- a fault doesn't show at a cell: it isn't the site, and its states are the same
pub record Hides (site : ℕ) (good faulty : Machine) (number : ℕ) : Type 0 where
  pub elsewhere : number ≢ site
  pub state : cell_state faulty number ≡ cell_state good number

-- it doesn't show at a cell as another reads that in a pass: an island reads it before the pass, an element after
abbrev pub HidesFrom : Netlist → Netlist → ℕ → Machine → Machine → Cell → ℕ → Type 0
HidesFrom netlist injected site good faulty (ElementCell reader) number = Hides site (pass netlist good) (pass injected faulty) number
HidesFrom netlist injected site good faulty (IslandCell reader) number = Hides site good faulty number

-- a netlist that differs from another in the patch of one cell at most, by its number
pub record IsInjected (netlist : Netlist) (site : ℕ) (injected : Netlist) : Type 0 where
  pub parts : injected.parts ≡ netlist.parts
  pub patches :
      (number : ℕ) → number ≢ site
      → patch_of injected (cell_of netlist.parts number) ≡ patch_of netlist (cell_of netlist.parts number)

-- two machines at one time with the same inputs in force, with a state for each cell
pub record AreAbreast (netlist : Netlist) (good faulty : Machine) : Type 0 where
  pub time : faulty.time ≡ good.time
  pub inputs : faulty.inputs ≡ good.inputs
  pub good_count : length good.cells ≡ cell_count netlist.parts
  pub faulty_count : length faulty.cells ≡ cell_count netlist.parts
