use Rattle.std.proofs.Common.{◌≡◌, ◌++◌, take, drop}
use Rattle.vector_text.proofs.ScheduleLemmas.{turns_up_to}
use Rattle.vector_text.proofs.schedule.Schedule.push_turns.Given as goal

abbrev pub invariant-loop-turn : goal.invariant-loop-turn
invariant-loop-turn l = l.self ≡ take l.first l.fn.self ++ turns_up_to l.period (drop l.first l.fn.self) l.turn
