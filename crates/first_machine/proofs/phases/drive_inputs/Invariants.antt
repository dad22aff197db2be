use Rattle.first_machine.proofs.Writes.{AreWritten, AreOthersKept}
use Rattle.first_machine.proofs.phases.drive_inputs.Given as goal

abbrev pub invariant-loop-k : goal.invariant-loop-k
invariant-loop-k l = record { written : AreWritten l.nets l.forced l.seen l.k; others : AreOthersKept l.nets l.initial.seen l.seen l.k }
