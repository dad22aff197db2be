-- A range's fields, and the signal that clauses see.
use Rattle.std.specs.Prelude.{pos, negsuc, ◌≤ℤ◌}
use Rattle.level_range.specs.Signal.{Signal}
use Rattle.level_range.specs.declared.range.Range.TheInside.{Inside}

-- the signal of a range's bounds
abbrev pub signal_of : Inside → Signal
signal_of r = record { lo = r.lo; hi = r.hi }

-- the range of a signal's bounds
abbrev pub range_of : Signal → Inside
range_of s = record { lo = s.lo; hi = s.hi }

-- bounds go from -7 to 7, the lower one first
abbrev pub AreBounds : Inside → Type 0
AreBounds r = (negsuc 6 ≤ℤ r.lo) × (r.lo ≤ℤ r.hi) × (r.hi ≤ℤ pos 7)
