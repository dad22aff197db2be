-- What a switch makes of a signal, and the hull of two signals.
use Rattle.std.specs.Prelude.{◌≡◌, ℕ, suc, Bool, true, false, ℤ, pos, negsuc, nat_eq, if◌then◌else◌}
use Rattle.std.specs.Int.{int_min, int_max}
use Rattle.level_range.specs.Signal.{Signal, IsSignal, undriven, negative_level}
use Rattle.level_range.specs.Levels.{HasLevel, Includes, IsFilled}

-- a strength behind a switch: a non-resistive one weakens supply alone (IEEE 1364-2005, 7.11 and 7.12)
abbrev pub reduced_strength : Bool → ℕ → ℕ
reduced_strength false n = if nat_eq n 7 then 6 else n
reduced_strength true n =
    if nat_eq n 7 then 5
    else if nat_eq n 6 then 5
    else if nat_eq n 5 then 3
    else if nat_eq n 4 then 2
    else if nat_eq n 3 then 2
    else if nat_eq n 2 then 1
    else n

-- a level behind a switch keeps its sign
unfoldable pub reduced_level : Bool → ℤ → ℤ
reduced_level resistive (pos n) = pos (reduced_strength resistive n)
reduced_level resistive (negsuc n) = negative_level (reduced_strength resistive (suc n))

-- the levels that the levels of the signal become
abbrev pub Reduced : Bool → Signal → ℤ → Type 0
Reduced resistive s v = (u : ℤ) × HasLevel s u × (v ≡ reduced_level resistive u)

-- the reduced signal: the reduced levels, with gaps filled
unfoldable pub IsReduction : Bool → Signal → Signal → Type 0
IsReduction resistive s t = IsFilled (Reduced resistive s) t

-- a signal reduced by its bounds
abbrev pub reduction_of : Bool → Signal → Signal
reduction_of resistive s = record { lo = reduced_level resistive s.lo; hi = reduced_level resistive s.hi }

-- the signal includes what the map makes of each signal that a includes
abbrev pub IncludesImages : Signal → (Signal → Signal) → Signal → Type 0
IncludesImages s f a = (b : Signal) → IsSignal b → Includes a b → Includes s (f b)

-- the hull of two signals: the least signal that contains both
pub record IsHull (a b hull : Signal) : Type 0 where
  pub first : Includes hull a
  pub second : Includes hull b
  pub least : (other : Signal) → Includes other a → Includes other b → Includes other hull

-- the hull by bounds
abbrev pub hull_of : Signal → Signal → Signal
hull_of a b = record { lo = int_min a.lo b.lo; hi = int_max a.hi b.hi }

-- the hull of a signal and z
abbrev pub hull_with_z : Signal → Signal
hull_with_z s = hull_of s undriven
