use Rattle.std.proofs.Common.{◌≡◌, ◌++◌}
use Rattle.std.specs.List.{range_with_len}
use Rattle.module_plan.proofs.numbers.push_range.Given as goal

abbrev pub invariant-loop-offset : goal.invariant-loop-offset
invariant-loop-offset l = l.numbers.items ≡ l.initial.numbers.items ++ range_with_len l.first l.offset
