use Rattle.std.proofs.Common.{ℕ, ◌<◌}
use Rattle.plain_sim.specs.Lists.{HasRoomForIsland}
use Rattle.plain_sim.proofs.starts.bench_for.Given as goal

-- there is room for the islands before this one
abbrev pub invariant-loop-number : goal.invariant-loop-number
invariant-loop-number l = (k : ℕ) → k < l.number → HasRoomForIsland l.flat.parts l.bench k
