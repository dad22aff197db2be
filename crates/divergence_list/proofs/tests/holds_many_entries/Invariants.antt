use Rattle.std.proofs.Common.{◌≡◌, length}
use Rattle.divergence_list.proofs.tests.holds_many_entries.Given as goal

abbrev pub invariant-loop-cell : goal.invariant-loop-cell
invariant-loop-cell g l = length l.spread ≡ 100000
