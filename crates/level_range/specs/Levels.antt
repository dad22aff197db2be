-- Signals as sets of levels.
use Rattle.std.specs.Prelude.{◌≡◌, ◌↔◌, ℤ, pos, ◌≤ℤ◌, ◌<ℤ◌}
use Rattle.level_range.specs.declared.range.Logic.{Logic}
use Rattle.level_range.specs.declared.range.Logic.TheVariants.{Zero, One, X, Z}
use Rattle.level_range.specs.Signal.{Signal}

-- the level stands in the signal
pub record HasLevel (s : Signal) (v : ℤ) : Type 0 where
  pub from_lo : s.lo ≤ℤ v
  pub to_hi : v ≤ℤ s.hi

-- each level of the second signal stands in the first
abbrev pub Includes : Signal → Signal → Type 0
Includes s t = (v : ℤ) → HasLevel t v → HasLevel s v

-- the level stands in the set with its gaps filled: it is between two of the set
abbrev pub Filled : (ℤ → Type 0) → ℤ → Type 0
Filled S v = ((u : ℤ) × S u × (u ≤ℤ v)) × ((w : ℤ) × S w × (v ≤ℤ w))

-- the signal is the set with its gaps filled
abbrev pub IsFilled : (ℤ → Type 0) → Signal → Type 0
IsFilled S s = (v : ℤ) → HasLevel s v ↔ Filled S v

-- all levels are of value 0
abbrev pub AllBelow : Signal → Type 0
AllBelow s = (v : ℤ) → HasLevel s v → v <ℤ pos 0

-- all levels are of value 1
abbrev pub AllAbove : Signal → Type 0
AllAbove s = (v : ℤ) → HasLevel s v → pos 0 <ℤ v

-- the only level is 0
abbrev pub AllZero : Signal → Type 0
AllZero s = (v : ℤ) → HasLevel s v → v ≡ pos 0

-- 0 where all levels are below 0, 1 where all are above, z where the only level is 0, else x
abbrev pub IsReading : Signal → Logic → Type 0
IsReading s Zero = AllBelow s
IsReading s One = AllAbove s
IsReading s Z = AllZero s
IsReading s X = ¬ AllBelow s × ¬ AllAbove s × ¬ AllZero s
