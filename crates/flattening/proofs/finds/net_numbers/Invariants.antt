use Rattle.std.proofs.Common.{◌≡◌, ◌+◌, map, slice_index_or}
use Rattle.std.specs.List.{range_with_len}
use Rattle.flattening.proofs.finds.net_numbers.Given as goal

abbrev pub invariant-loop-place : goal.invariant-loop-place
invariant-loop-place l = l.nets.items ≡ map (λ place. slice_index_or l.numbers (l.net.first + place) 0) (range_with_len 0 l.place)
