-- Numbers, decimals and exponents: their lengths, and the value of digits.
use Rattle.std.specs.Prelude.{ℕ, ◌+◌, ◌*◌, ◌-◌, ◌&&◌, ◌||◌, ◌==◌, nat_lt, List, [], ◌∷◌, drop, if◌then◌else◌}
use Rattle.v_lexer.specs.Bytes.{first, digit_run}

-- a value with one more decimal digit behind it: `_` is passed over
abbrev pub value_with : ℕ → ℕ → ℕ
value_with value byte = if byte == 95 then value else 10 * value + (byte - 48)

-- the value of digits behind those of another value
unfoldable pub value_after : ℕ → List ℕ → ℕ
value_after value [] = value
value_after value (byte ∷ bytes) = value_after (value_with value byte) bytes

-- the value of decimal digits, among which `_` may stand
abbrev pub decimal_value : List ℕ → ℕ
decimal_value digits = value_after 0 digits

-- the length of digits, `.` and digits, or 0
unfoldable pub decimal_len : List ℕ → ℕ
decimal_len bytes =
    if first (drop (digit_run bytes) bytes) == 46
    && nat_lt 0 (digit_run (drop (digit_run bytes + 1) bytes)) then
    digit_run bytes + 1 + digit_run (drop (digit_run bytes + 1) bytes)
    else 0

-- the length of a sign, or 0
abbrev pub sign_len : List ℕ → ℕ
sign_len bytes = if first bytes == 43 || first bytes == 45 then 1 else 0

-- how many bytes of an exponent stand before its digits: `e` or `E`, and an optional sign
abbrev pub exponent_head : List ℕ → ℕ
exponent_head bytes = 1 + sign_len (drop 1 bytes)

-- the length of `e` or `E`, an optional sign and digits, or 0
unfoldable pub exponent_len : List ℕ → ℕ
exponent_len bytes =
    if (first bytes == 101 || first bytes == 69)
    && nat_lt 0 (digit_run (drop (exponent_head bytes) bytes)) then
    exponent_head bytes + digit_run (drop (exponent_head bytes) bytes)
    else 0
