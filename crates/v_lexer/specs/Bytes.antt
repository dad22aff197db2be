-- Kinds of bytes, and the runs of one kind at the front of a text.
use Rattle.std.specs.Prelude.{ℕ, ◌+◌, Bool, not, ◌||◌, ◌&&◌, ◌==◌, nat_lt, List, [], ◌∷◌, drop, Option}
use Rattle.std.specs.Option.{option_map}
use Rattle.std.specs.List.{prefix_len}
use Rattle.std.specs.Char.{is_ascii_alphabetic, is_ascii_alphanumeric, is_ascii_digit}

-- a letter or `_`
abbrev pub is_letter : ℕ → Bool
is_letter byte = is_ascii_alphabetic byte || byte == 95

-- a letter, a digit, `_` or `$`
abbrev pub is_name_byte : ℕ → Bool
is_name_byte byte = is_ascii_alphanumeric byte || byte == 95 || byte == 36

-- a digit or `_`
abbrev pub is_number_byte : ℕ → Bool
is_number_byte byte = is_ascii_digit byte || byte == 95

-- a letter, a digit, `_` or `?`
abbrev pub is_literal_byte : ℕ → Bool
is_literal_byte byte = is_ascii_alphanumeric byte || byte == 95 || byte == 63

-- a space, a tab, a line feed, a carriage return or a form feed
abbrev pub is_blank : ℕ → Bool
is_blank byte = byte == 32 || byte == 9 || byte == 10 || byte == 13 || byte == 12

-- from `!` to `~`
abbrev pub is_visible : ℕ → Bool
is_visible byte = nat_lt 32 byte && nat_lt byte 127

-- a byte that doesn't end a line
abbrev pub is_in_line : ℕ → Bool
is_in_line byte = not (byte == 10)

-- how many bytes at the front are of a kind
abbrev pub name_run : List ℕ → ℕ
name_run bytes = prefix_len is_name_byte bytes

abbrev pub digit_run : List ℕ → ℕ
digit_run bytes = prefix_len is_ascii_digit bytes

abbrev pub number_run : List ℕ → ℕ
number_run bytes = prefix_len is_number_byte bytes

abbrev pub literal_run : List ℕ → ℕ
literal_run bytes = prefix_len is_literal_byte bytes

abbrev pub blank_run : List ℕ → ℕ
blank_run bytes = prefix_len is_blank bytes

abbrev pub visible_run : List ℕ → ℕ
visible_run bytes = prefix_len is_visible bytes

abbrev pub line_run : List ℕ → ℕ
line_run bytes = prefix_len is_in_line bytes

-- the first byte, or 0, which is in no form, at the end of the text
abbrev pub first : List ℕ → ℕ
first [] = 0
first (byte ∷ bytes) = byte

-- the first two bytes are these
abbrev pub begins : ℕ → ℕ → List ℕ → Bool
begins a b bytes = first bytes == a && first (drop 1 bytes) == b

-- a length, where there is one, with n more bytes before it
abbrev pub plus : ℕ → Option ℕ → Option ℕ
plus n len = option_map (λ m. n + m) len
