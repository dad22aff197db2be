use Rattle.std.proofs.Common.{◌≡◌, ◌++◌, map}
use Rattle.std.specs.List.{range_with_len}
use Rattle.flattening.specs.Spelled.{bit_find}
use Rattle.flattening.proofs.finds.push_each_bit.Given as goal

abbrev pub invariant-loop-place : goal.invariant-loop-place
invariant-loop-place l = l.finds.items ≡ l.initial.finds.items ++ map (bit_find l.at l.net) (range_with_len 0 l.place)
