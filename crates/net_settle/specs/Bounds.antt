-- The lower and the upper bounds of signals: which of two is the better one, and what a switch carries.
use Rattle.std.specs.Prelude.{ℕ, Bool, ℤ, pos, int_lt, if◌then◌else◌, List, map, slice_index_or}
use Rattle.level_range.specs.declared.range.Conduct.{Conduct}
use Rattle.level_range.specs.declared.range.Conduct.TheVariants.{On, Off, Unknown}
use Rattle.level_range.specs.Signal.{Signal, negative_level}
use Rattle.level_range.specs.Combine.{better_low, better_high}
use Rattle.level_range.specs.Reduce.{reduced_level}
use Rattle.net_settle.specs.declared.shape.Link.{Link}
use Rattle.net_settle.specs.declared.side.Side.{Side}
use Rattle.net_settle.specs.declared.side.Side.TheVariants.{Lower, Upper}

-- a bidirectional switch, and what it does with its data
abbrev pub Switch : Type 0
Switch = Link × Conduct

-- the bound of a signal on a side
abbrev pub bound_of : Side → Signal → ℤ
bound_of Lower s = s.lo
bound_of Upper s = s.hi

-- the bounds of signals on a side
abbrev pub bounds_of : Side → List Signal → List ℤ
bounds_of side signals = map (bound_of side) signals

-- the bound of a net
abbrev pub at : List ℤ → ℕ → ℤ
at bounds n = slice_index_or bounds n (pos 0)

-- of two bounds the one of greater absolute level is better; at equal levels a negative lower and a positive upper one
abbrev pub better : Side → ℤ → ℤ → ℤ
better Lower x y = better_low x y
better Upper x y = better_high x y

-- the bound has the sign that is better at equal levels
abbrev pub is_favoured : Side → ℤ → Bool
is_favoured Lower v = int_lt v (pos 0)
is_favoured Upper v = int_lt (pos 0) v

-- the bound of a strength that is better at equal levels, and the other one
abbrev pub favoured_level : Side → ℕ → ℤ
favoured_level Lower strength = negative_level strength
favoured_level Upper strength = pos strength

abbrev pub opposed_level : Side → ℕ → ℤ
opposed_level Lower strength = pos strength
opposed_level Upper strength = negative_level strength

-- what a switch carries of the bound at one end: one that conducts the reduced bound, one that is off nothing, and
-- an unknown one only a negative lower or a positive upper bound
abbrev pub carried_bound : Side → Link → Conduct → ℤ → ℤ
carried_bound side link On v = reduced_level link.resistive v
carried_bound side link Off v = pos 0
carried_bound side link Unknown v = if is_favoured side v then reduced_level link.resistive v else pos 0
