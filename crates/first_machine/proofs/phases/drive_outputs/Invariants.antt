use Rattle.std.proofs.Common.{◌≡◌, take}
use Rattle.gate_net.specs.Sound.{driven_nets}
use Rattle.first_machine.proofs.Writes.{AreWritten, AreOthersKept}
use Rattle.first_machine.proofs.phases.drive_outputs.Given as goal

abbrev pub invariant-loop-k : goal.invariant-loop-k
invariant-loop-k l = record {
  outs : take l.k l.outs ≡ take l.k l.targets;
  written : AreWritten (driven_nets l.gates) l.targets l.seen l.k;
  others : AreOthersKept (driven_nets l.gates) l.initial.seen l.seen l.k;
}
