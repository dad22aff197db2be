-- What settings keep in a file whose precisions are none greater than their units.
use Rattle.std.specs.Prelude.{ℤ, pos, negsuc, ◌≤ℤ◌}
use Rattle.module_directives.specs.declared.settings.Settings.{Settings}

-- the tick is at least 1 fs and no greater than the precision, that no greater than the unit, and that at most 100 s
pub record IsScaled (tick : ℤ) (settings : Settings) : Type 0 where
  pub least : negsuc 14 ≤ℤ tick
  pub fine : tick ≤ℤ settings.precision
  pub coarse : settings.precision ≤ℤ settings.unit
  pub greatest : settings.unit ≤ℤ pos 2
