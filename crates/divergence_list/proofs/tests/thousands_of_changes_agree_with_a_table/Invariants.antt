use Rattle.std.proofs.Common.{◌≡◌, length}
use Rattle.divergence_list.proofs.tests.thousands_of_changes_agree_with_a_table.Given as goal

abbrev pub invariant-loop-step : goal.invariant-loop-step
invariant-loop-step g l = length l.spread ≡ 16
