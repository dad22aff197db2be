-- Where a run is before one of its steps.
use Rattle.std.specs.Prelude.{◌≡◌, ℕ, ◌+◌, ◌<◌, List, ◌++◌, Option}
use Rattle.level_range.specs.declared.range.Logic.{Logic}
use Rattle.gate_net.specs.declared.netlist.Netlist.{Netlist}
use Rattle.gate_net.specs.declared.stimulus.Stimulus.{Stimulus}
use Rattle.first_machine.specs.Machine.{Machine}
use Rattle.first_machine.specs.Run.{run_from, run}
use Rattle.first_machine.specs.Trace.{trace, trace_from}
use Rattle.first_machine.specs.Shown.{values_from, AreShown}
use Rattle.first_machine.specs.Places.{IsQuiet}
use Rattle.first_machine.specs.PrintedPlaces.{ArePrinted}

-- before the step at a tick: the machine, what was printed, and that the text so far and the rest of the run make the
-- whole trace
pub record IsAt (limit : ℕ) (netlist : Netlist) (stimulus : Stimulus) (outs targets seen : List Logic) (printed : List (Option Logic)) (text : List ℕ) (tick : ℕ) : Type 0 where
  pub machine : Machine
  pub last : List (Option (List ℕ))
  pub bound : ℕ
  pub forced : List Logic
  pub shown : AreShown netlist (values_from outs targets seen forced) machine
  pub quiet : IsQuiet netlist (values_from outs targets seen forced)
  pub printed_last : ArePrinted printed last
  pub in_bound : stimulus.end < tick + bound
  pub text_rest : text ++ trace_from netlist last (run_from bound limit netlist stimulus tick machine).ended ≡ trace netlist (run limit netlist stimulus).ended
  pub oscillates : (run_from bound limit netlist stimulus tick machine).oscillated ≡ (run limit netlist stimulus).oscillated
