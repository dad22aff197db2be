-- Machines that stand still while others make passes.
use Rattle.std.specs.Prelude.{◌≡◌, true, false}
use Rattle.flat_net.specs.Patches.{Netlist}
use Rattle.machine.specs.Machine.{Machine}
use Rattle.machine.specs.Pass.{is_machine_due}
use Rattle.machine.specs.Sound.{IsMachine}

-- two machines that are the same but for their times, their numbers of passes and their inputs in force
pub record SameButTime (a b : Machine) : Type 0 where
  pub has_passed : a.has_passed ≡ b.has_passed
  pub last_inputs : a.last_inputs ≡ b.last_inputs
  pub cells : a.cells ≡ b.cells

-- a machine of the netlist that made a pass, in which nothing is due, and whose inputs in force are those of its last pass
pub record IsIdle (netlist : Netlist) (m : Machine) : Type 0 where
  pub machine : IsMachine netlist m
  pub passed : m.has_passed ≡ true
  pub quiet : is_machine_due m ≡ false
  pub inputs : m.inputs ≡ m.last_inputs
