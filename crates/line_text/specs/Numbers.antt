-- Decimal numbers.
use Rattle.std.specs.Prelude.{ℕ, ◌+◌, ◌-◌, ◌*◌, ◌^◌, ◌&&◌, min, List, [], ◌∷◌, length, Option, Some, None, option_map, option_and_then, nat_le, if◌then◌else◌}

-- the value of a decimal digit
abbrev pub digit_of : ℕ → Option ℕ
digit_of b = if nat_le 48 b && nat_le b 57 then Some (b - 48) else None

-- the number that decimal digits make behind those of n
abbrev pub number_behind : ℕ → List ℕ → Option ℕ
number_behind n [] = Some n
number_behind n (d ∷ ds) = option_and_then (λ value. number_behind (n * 10 + value) ds) (digit_of d)

-- the number of one or more decimal digits; leading zeros may stand there
unfoldable pub decimal_of : List ℕ → Option ℕ
decimal_of [] = None
decimal_of (d ∷ ds) = number_behind 0 (d ∷ ds)

-- the number of 1 to 20 decimal digits
unfoldable pub number_of : List ℕ → Option ℕ
number_of field = if nat_le (length field) 20 then decimal_of field else None

-- a number of 2^64 or more counts as 2^64 - 1, which is above every limit of these texts
abbrev pub cap : ℕ → ℕ
cap n = min n (2 ^ 64 - 1)

abbrev pub capped_decimal : List ℕ → Option ℕ
capped_decimal field = option_map cap (decimal_of field)

abbrev pub capped_number : List ℕ → Option ℕ
capped_number field = option_map cap (number_of field)
