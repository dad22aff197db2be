use Rattle.std.proofs.Common.{◌≡◌, ◌+◌, ◌++◌, map, slice_index_or}
use Rattle.std.specs.List.{range_with_len}
use Rattle.flattening.proofs.nets.push_claims.Given as goal

abbrev pub invariant-loop-place : goal.invariant-loop-place
invariant-loop-place l = l.claims.items ≡ l.initial.claims.items ++ map (λ place. (slice_index_or l.at.numbers (l.net.first + place) 0, l.claim)) (range_with_len 0 l.place)
