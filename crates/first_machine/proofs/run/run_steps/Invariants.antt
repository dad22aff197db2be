use Rattle.std.proofs.Common.{◌≡◌, ◌-◌, ◌≤◌, length}
use Rattle.first_machine.specs.Places.{AreEarlier}
use Rattle.first_machine.specs.Progress.{IsAt}
use Rattle.first_machine.specs.Shown.{HaveSizes}
use Rattle.first_machine.specs.StateValues.{values_of}
use Rattle.first_machine.proofs.run.run_steps.Given as goal

abbrev pub invariant-steps : goal.invariant-steps
invariant-steps l = record {
  state : IsAt l.limit l.netlist l.stimulus l.state.outs.items l.state.targets.items l.state.seen.items l.printed l.text.items l.tick;
  sizes : HaveSizes l.netlist (values_of l.state);
  printed_size : length l.printed ≡ length l.netlist.outputs;
  lines : AreEarlier l.stimulus.lines l.tick l.at;
  within : l.tick ≤ l.stimulus.end;
}

abbrev pub decreases-steps : goal.decreases-steps
decreases-steps l = l.stimulus.end - l.tick
