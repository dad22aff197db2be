-- Which delay a change takes (IEEE 1364-2005, 7.14).
use Rattle.std.specs.Prelude.{ℕ, ◌+◌, List, [], ◌∷◌, min, take}
use Rattle.level_range.specs.declared.range.Logic.{Logic}
use Rattle.level_range.specs.declared.range.Logic.TheVariants.{Zero, One, X, Z}
use Rattle.level_range.specs.declared.range.Conduct.{Conduct}
use Rattle.level_range.specs.declared.range.Conduct.TheVariants.{On, Off, Unknown}
use Rattle.delay_rule.specs.declared.delays.Delays.{Delays}

-- the delays that are given
abbrev pub delay_list : Delays → List ℕ
delay_list delays = take delays.count delays.d

-- no delay is 0, and one serves all; a change to 1 takes the first, to 0 the second, to z the third or with two
-- delays the least, to x the least of those given
abbrev pub delay_among : List ℕ → Logic → ℕ
delay_among [] _ = 0
delay_among (all ∷ []) _ = all
delay_among (rise ∷ fall ∷ []) One = rise
delay_among (rise ∷ fall ∷ []) Zero = fall
delay_among (rise ∷ fall ∷ []) Z = min rise fall
delay_among (rise ∷ fall ∷ []) X = min rise fall
delay_among (rise ∷ fall ∷ off ∷ _) One = rise
delay_among (rise ∷ fall ∷ off ∷ _) Zero = fall
delay_among (rise ∷ fall ∷ off ∷ _) Z = off
delay_among (rise ∷ fall ∷ off ∷ _) X = min (min rise fall) off

-- the delay of a change to a value
abbrev pub delay_of : Delays → Logic → ℕ
delay_of delays to = delay_among (delay_list delays) to

-- the tick at which a change to a value takes effect that begins at this one
abbrev pub due : ℕ → Delays → Logic → ℕ
due now delays to = now + delay_of delays to

-- the value by which a switch chooses its delay: it turns on by the delay to 1, off by that to 0, to unknown by that to x
abbrev pub switch_value : Conduct → Logic
switch_value On = One
switch_value Off = Zero
switch_value Unknown = X
