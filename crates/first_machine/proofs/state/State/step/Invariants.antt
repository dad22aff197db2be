use Rattle.std.proofs.Common.{◌≡◌}
use Rattle.first_machine.specs.Machine.{Machine}
use Rattle.first_machine.specs.Pass.{is_due}
use Rattle.first_machine.specs.Run.{further, step}
use Rattle.first_machine.specs.Shown.{AreShown, HaveSizes}
use Rattle.first_machine.specs.StateValues.{values_of}
use Rattle.first_machine.proofs.state.State.step.Given as goal

abbrev pub invariant-loop-due : goal.invariant-loop-due
invariant-loop-due l = record {
  sizes : HaveSizes l.netlist (values_of l.self);
  forced : l.self.forced.items ≡ l.fn.self.forced.items;
  so_far : (m : Machine) → AreShown l.netlist (values_of l.fn.self) m → (n : Machine) × (AreShown l.netlist (values_of l.self) n × (is_due n ≡ l.due) × (further l.left l.netlist n ≡ step l.limit l.netlist m));
}

abbrev pub decreases-loop-due : goal.decreases-loop-due
decreases-loop-due l = l.left
