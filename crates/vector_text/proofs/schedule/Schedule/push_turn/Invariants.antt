use Rattle.std.proofs.Common.{◌≡◌, ◌++◌, map}
use Rattle.std.specs.Prelude.{slice_range}
use Rattle.vector_text.specs.Written.{later_line}
use Rattle.vector_text.proofs.schedule.Schedule.push_turn.Given as goal

abbrev pub invariant-loop-k : goal.invariant-loop-k
invariant-loop-k l = l.self ≡ l.fn.self ++ map (later_line l.by) (slice_range l.fn.self l.first l.k)
