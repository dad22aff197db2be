-- Only the bodies use these: the finished bounds on one side of the nets of an island whose own signals are given.
use Rattle.std.specs.Prelude.{ℤ, List, zip}
use Rattle.level_range.specs.declared.range.Conduct.{Conduct}
use Rattle.level_range.specs.Signal.{Signal}
use Rattle.net_settle.specs.declared.shape.Link.{Link}
use Rattle.net_settle.specs.declared.side.Side.{Side}
use Rattle.net_settle.specs.Bounds.{bounds_of}
use Rattle.net_settle.specs.Settling.{IsSettled}
use Rattle.net_settle.specs.ByLevels.{settled_bounds}

-- the bounds that the function of the levels gives
abbrev pub bounds_on : Side → List Link → List Conduct → List Signal → List ℤ
bounds_on side links on own = settled_bounds side (zip links on) (bounds_of side own)

-- these bounds are finished
abbrev pub AreBoundsOn : Side → List Link → List Conduct → List Signal → List ℤ → Type 0
AreBoundsOn side links on own bounds = IsSettled side (zip links on) (bounds_of side own) bounds
