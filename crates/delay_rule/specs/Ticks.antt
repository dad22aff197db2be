-- A written delay in ticks: its amount times the unit, rounded to the precision with a half rounded up
-- (IEEE 1364-2005, 19.8).
use Rattle.std.specs.Prelude.{ℕ, ◌+◌, ◌*◌, ◌^◌, ◌-◌, ◌≤◌, List, [], ◌∷◌, ◌++◌, fold, take, drop, length, replicate, nat_le, Option, Some, None, if◌then◌else◌, ℤ, ◌-ℤ◌, unsigned_abs}
use Rattle.std.specs.List.{All}

-- a number with further decimal digits behind its own
abbrev pub number_after : ℕ → List ℕ → ℕ
number_after n digits = fold (λ m digit. 10 * m + digit) n digits

-- the number that decimal digits write
abbrev pub number : List ℕ → ℕ
number digits = number_after 0 digits

-- each digit is below ten
abbrev pub AreDigits : List ℕ → Type 0
AreDigits digits = All (λ digit. digit ≤ 9) digits

-- the first k digits of a fraction; a missing one is 0
abbrev pub digits_to : ℕ → List ℕ → List ℕ
digits_to k fraction = take k fraction ++ replicate (k - length fraction) 0

-- 1 where the first digit is five or more
abbrev pub half_up : List ℕ → ℕ
half_up [] = 0
half_up (digit ∷ _) = if nat_le 5 digit then 1 else 0

-- how many powers of ten lie between two exponents
abbrev pub places : ℤ → ℤ → ℕ
places above below = unsigned_abs (above -ℤ below)

-- the amount in units of the precision, rounded
abbrev pub rounded_amount : List ℕ → List ℕ → ℕ → ℕ
rounded_amount whole fraction k = number (whole ++ digits_to k fraction) + half_up (drop k fraction)

-- the delay in ticks
abbrev pub ticks_of : List ℕ → List ℕ → ℤ → ℤ → ℤ → ℕ
ticks_of whole fraction unit precision tick =
    rounded_amount whole fraction (places unit precision) * 10 ^ places precision tick

-- the delay in ticks, none where it is 2^31 or more
abbrev pub delay_in_ticks : ℕ → Option ℕ
delay_in_ticks ticks = if nat_le ticks 2147483647 then Some ticks else None
