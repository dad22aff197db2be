-- Based numbers: their form from the `'` on, when their digits are sound, and their bits.
use Rattle.std.specs.Prelude.{ℕ, zero, suc, ◌+◌, ◌-◌, ◌/◌, ◌%◌, ◌^◌, Bool, true, ◌&&◌, ◌||◌, ◌==◌, nat_lt, nat_le, List, [], ◌∷◌, ◌++◌, length, take, drop, replicate, Option, Some, None, if◌then◌else◌}
use Rattle.std.specs.List.{list_all}
use Rattle.std.specs.Char.{is_ascii_digit}
use Rattle.v_lexer.specs.declared.literals.Base.{Base}
use Rattle.v_lexer.specs.declared.literals.Base.TheVariants.{Binary, Octal, Decimal, Hexadecimal}
use Rattle.v_lexer.specs.declared.literals.Bit.{Bit}
use Rattle.v_lexer.specs.declared.literals.Bit.TheVariants.{Zero, One, X, Z}
use Rattle.v_lexer.specs.declared.literals.Form as literal
use Rattle.v_lexer.specs.Bytes.{first, blank_run, literal_run}
use Rattle.v_lexer.specs.Numbers.{decimal_value}

-- the base of a letter
unfoldable pub base_of : ℕ → Option Base
base_of byte =
    if byte == 98 || byte == 66 then Some Binary
    else if byte == 111 || byte == 79 then Some Octal
    else if byte == 100 || byte == 68 then Some Decimal
    else if byte == 104 || byte == 72 then Some Hexadecimal
    else None

-- the length of an `s` or `S`, or 0
abbrev pub signed_len : List ℕ → ℕ
signed_len bytes = if first bytes == 115 || first bytes == 83 then 1 else 0

-- the digits of a based number, and its length, both from the `'` on
pub record Form : Type 0 where
  pub signed : Bool
  pub base : Base
  pub digits : List ℕ
  pub len : ℕ

-- where digits begin at the offset, the form that they end
unfoldable pub form_with : Bool → Base → ℕ → List ℕ → Option Form
form_with signed base start bytes =
    if literal_run (drop start bytes) == 0 || first (drop start bytes) == 95 then None
    else Some (record {
      signed = signed;
      base = base;
      digits = take (literal_run (drop start bytes)) (drop start bytes);
      len = start + literal_run (drop start bytes);
    })

-- the parts of a form of the program without where they lie in memory
abbrev pub form_view : literal.Form → Form
form_view form =
    record { signed = form.signed; base = form.base; digits = form.digits.now; len = form.len }

-- what stands after the base, which is at the offset: blanks and digits
abbrev pub form_after : Bool → ℕ → List ℕ → Base → Option Form
form_after signed offset bytes base =
    form_with signed base (offset + 1 + blank_run (drop (offset + 1) bytes)) bytes

abbrev pub and_then : {A B : Type 0} → Option A → (A → Option B) → Option B
and_then None f = None
and_then (Some x) f = f x

-- `'`, an optional `s`, a base, optional blanks and digits
unfoldable pub form_at : List ℕ → Option Form
form_at bytes =
    and_then (base_of (first (drop (1 + signed_len (drop 1 bytes)) bytes)))
    (form_after (signed_len (drop 1 bytes) == 1) (1 + signed_len (drop 1 bytes)) bytes)

-- x, z or `?`
abbrev pub is_x : ℕ → Bool
is_x byte = byte == 120 || byte == 88

abbrev pub is_z : ℕ → Bool
is_z byte = byte == 122 || byte == 90 || byte == 63

-- the value of a digit or a letter of a base: 16 where it is none
unfoldable pub digit_value : ℕ → ℕ
digit_value byte =
    if is_ascii_digit byte then byte - 48
    else if nat_le 97 byte && nat_le byte 102 then byte - 87
    else if nat_le 65 byte && nat_le byte 70 then byte - 55
    else 16

-- how many values a digit has
abbrev pub radix : Base → ℕ
radix Binary = 2
radix Octal = 8
radix Decimal = 10
radix Hexadecimal = 16

-- the bit that extends digits on the left: x or z where the leftmost digit is one, else 0
unfoldable pub extension_of : List ℕ → Bit
extension_of digits = if is_x (first digits) then X else if is_z (first digits) then Z else Zero

-- a digit of the base, an x, a z, a `?` or `_`
unfoldable pub is_digit_of : Base → ℕ → Bool
is_digit_of base byte = byte == 95 || is_x byte || is_z byte
    || nat_lt (digit_value byte) (radix base)

-- a decimal digit or `_`
abbrev pub is_decimal_digit : ℕ → Bool
is_decimal_digit byte = byte == 95 || is_ascii_digit byte

-- a single x, z or `?`, which `_` may follow
unfoldable pub is_single : List ℕ → Bool
is_single digits = (is_x (first digits) || is_z (first digits))
    && list_all (λ byte. byte == 95) (drop 1 digits)

-- each digit is one of the base; of base d, all are decimal digits, or there is a single x, z or `?`
unfoldable pub digits_hold : Base → List ℕ → Bool
digits_hold Decimal digits = is_single digits || list_all is_decimal_digit digits
digits_hold base digits = list_all (is_digit_of base) digits

-- the bit of a digit that counts as much as the weight
unfoldable pub bit_at : ℕ → ℕ → Bit
bit_at byte weight =
    if is_x byte then X
    else if is_z byte then Z
    else if (digit_value byte / weight) % 2 == 1 then One
    else Zero

-- the bits of a digit by their weights, leftmost first
unfoldable pub bits_by_weight : Base → ℕ → List Bit
bits_by_weight Binary byte = bit_at byte 1 ∷ []
bits_by_weight Octal byte = bit_at byte 4 ∷ bit_at byte 2 ∷ bit_at byte 1 ∷ []
bits_by_weight base byte = bit_at byte 8 ∷ bit_at byte 4 ∷ bit_at byte 2 ∷ bit_at byte 1 ∷ []

-- the bits of a digit: `_` has none
unfoldable pub digit_bits : Base → ℕ → List Bit
digit_bits base byte = if byte == 95 then [] else bits_by_weight base byte

-- the bits of all digits of a base that isn't decimal
unfoldable pub bits_of : Base → List ℕ → List Bit
bits_of base [] = []
bits_of base (byte ∷ bytes) = digit_bits base byte ++ bits_of base bytes

-- how many bits there are after leading zeros
unfoldable pub needed_len : List Bit → ℕ
needed_len [] = 0
needed_len (Zero ∷ bits) = needed_len bits
needed_len (bit ∷ bits) = length (bit ∷ bits)

-- the size is from 1 to 128, where there is one
abbrev pub size_holds : Option ℕ → Bool
size_holds None = true
size_holds (Some size) = nat_le 1 size && nat_le size 128

-- of base d a value is at most 2 ^ 128 - 1; without size 32 bits are enough, so that it is at most 2 ^ 32 - 1
unfoldable pub value_holds : Option ℕ → Base → List ℕ → Bool
value_holds None Decimal digits = is_single digits || nat_le (decimal_value digits) 4294967295
value_holds (Some size) Decimal digits = is_single digits
    || nat_le (decimal_value digits) 340282366920938463463374607431768211455
value_holds None base digits = nat_le (needed_len (bits_of base digits)) 32
value_holds (Some size) base digits = true

-- the number has none of the faults of a based number
unfoldable pub holds : Option ℕ → Form → Bool
holds size form = size_holds size && digits_hold form.base form.digits
    && value_holds size form.base form.digits

-- what extends bits on the left
abbrev pub filler : List Bit → Bit
filler (X ∷ bits) = X
filler (Z ∷ bits) = Z
filler bits = Zero

-- as many bits as the number: extended on the left, or cut on the left
unfoldable pub fit : ℕ → List Bit → List Bit
fit n bits = if nat_lt (length bits) n then replicate (n - length bits) (filler bits) ++ bits
    else drop (length bits - n) bits

-- the value in binary with so many bits, cut on the left
unfoldable pub binary : ℕ → ℕ → List Bit
binary zero value = []
binary (suc n) value = (if (value / 2 ^ n) % 2 == 1 then One else Zero) ∷ binary n value

-- the bits of the digits, as many as the number
unfoldable pub bits_in : ℕ → Base → List ℕ → List Bit
bits_in n Decimal digits = if is_single digits then replicate n (bit_at (first digits) 1)
    else binary n (decimal_value digits)
bits_in n base digits = fit n (bits_of base digits)
