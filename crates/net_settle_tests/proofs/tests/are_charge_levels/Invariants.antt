use Rattle.std.proofs.Common.{◌<◌, ℕ, get_or}
use Rattle.net_settle.specs.Conditions.{IsChargeLevel}
use Rattle.net_settle_tests.proofs.tests.are_charge_levels.Given as goal

abbrev pub invariant-loop-level : goal.invariant-loop-level
invariant-loop-level l = (k : ℕ) (d : ℕ) → k < l.level-index → IsChargeLevel (get_or l.levels k d)
