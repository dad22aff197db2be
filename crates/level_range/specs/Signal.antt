-- Signals as clauses see them: what they read as, how `%v` prints them, and what a gate of two strengths drives.
use Rattle.std.specs.Prelude.{ℕ, zero, suc, ℤ, pos, negsuc, ◌+◌, ◌≤ℤ◌, int_lt, unsigned_abs, if◌then◌else◌, List, [], ◌∷◌, ◌++◌, codes, nat_eq}
use Rattle.level_range.specs.declared.range.Logic.{Logic}
use Rattle.level_range.specs.declared.range.Logic.TheVariants.{Zero, One, X, Z}

-- a signal: all levels from lo to hi
pub record Signal : Type 0 where
  pub lo : ℤ
  pub hi : ℤ

-- z: the signal of a net that nothing drives
abbrev pub undriven : Signal
undriven = record { lo = pos 0; hi = pos 0 }

-- a signal's levels go from -7 to 7, and it has at least one
pub record IsSignal (s : Signal) : Type 0 where
  pub low : negsuc 6 ≤ℤ s.lo
  pub order : s.lo ≤ℤ s.hi
  pub high : s.hi ≤ℤ pos 7

-- 0 where all levels are below 0, 1 where all are above, z where the only level is 0, else x: where levels of both
-- signs are possible, and where 0 is beside those of one sign
abbrev pub reads : Signal → Logic
reads s =
    if int_lt s.hi (pos 0) then Zero
    else if int_lt (pos 0) s.lo then One
    else if int_lt s.lo (pos 0) then X
    else if int_lt (pos 0) s.hi then X
    else Z

-- the two letters of a strength level (IEEE 1364-2005, 17.1.1.5)
abbrev pub mnemonic : ℕ → List ℕ
mnemonic level =
    if nat_eq level 7 then codes "Su"
    else if nat_eq level 6 then codes "St"
    else if nat_eq level 5 then codes "Pu"
    else if nat_eq level 4 then codes "La"
    else if nat_eq level 3 then codes "We"
    else if nat_eq level 2 then codes "Me"
    else if nat_eq level 1 then codes "Sm"
    else codes "Hi"

-- two strengths, in the order given: by the letters where they are equal, else by a digit each
abbrev pub strengths : ℕ → ℕ → List ℕ
strengths a b = if nat_eq a b then mnemonic a else (48 + a) ∷ (48 + b) ∷ []

-- The three characters of `%v` (IEEE 1364-2005, 17.1.1.5). A signal of value 0 or 1 prints its greatest strength and
-- then its least. X prints the greatest strength of value 0 and then that of value 1, whichever of the two is greater.
-- L and H, from 0 to levels of value 0 and of value 1, print the greatest strength. How a range prints is this
-- project's own.
abbrev pub signal_text : Signal → List ℕ
signal_text s =
    if int_lt s.hi (pos 0) then strengths (unsigned_abs s.lo) (unsigned_abs s.hi) ++ codes "0"
    else if int_lt (pos 0) s.lo then strengths (unsigned_abs s.hi) (unsigned_abs s.lo) ++ codes "1"
    else if int_lt s.lo (pos 0) then
    (if int_lt (pos 0) s.hi then strengths (unsigned_abs s.lo) (unsigned_abs s.hi) ++ codes "X"
    else mnemonic (unsigned_abs s.lo) ++ codes "L")
    else if int_lt (pos 0) s.hi then mnemonic (unsigned_abs s.hi) ++ codes "H"
    else codes "HiZ"

-- the level of a strength for value 0
abbrev pub negative_level : ℕ → ℤ
negative_level zero = pos 0
negative_level (suc k) = negsuc k

-- what a result drives with strength s0 for 0 and s1 for 1
abbrev pub span_of : Logic → ℕ → ℕ → Signal
span_of Zero s0 s1 = record { lo = negative_level s0; hi = negative_level s0 }
span_of One s0 s1 = record { lo = pos s1; hi = pos s1 }
span_of X s0 s1 = record { lo = negative_level s0; hi = pos s1 }
span_of Z s0 s1 = record { lo = pos 0; hi = pos 0 }
