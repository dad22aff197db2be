-- The bytes before `at` were written, and no fault was counted.
use Rattle.std.proofs.Common.{length, take, ◌-◌, ◌≡◌, ◌≤◌}
use Rattle.outside_io.specs.Outside.{Gains}
use Rattle.outside_io.proofs.whole.write_whole.Given as goal

abbrev pub invariant-loop-at : goal.invariant-loop-at
invariant-loop-at g l = record {
  within : l.at ≤ length l.bytes;
  quiet : g.O.Sink.faults l.sink ≡ g.O.Sink.faults l.fn.sink;
  gained : Gains (g.O.Sink.written l.fn.sink) (g.O.Sink.written l.sink) (take l.at l.bytes);
}

abbrev pub decreases-loop-at : goal.decreases-loop-at
decreases-loop-at g l = length l.bytes - l.at
