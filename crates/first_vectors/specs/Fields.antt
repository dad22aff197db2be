-- The lines, fields and times of a text, by cases on its bytes.
use Rattle.std.specs.Prelude.{ℕ, ◌+◌, ◌-◌, ◌*◌, ◌^◌, ◌&&◌, List, [], ◌∷◌, ◌++◌, length, map, Option, Some, None, nat_lt, nat_le, ◌==◌, if◌then◌else◌}
use Rattle.std.specs.List.{slice_split, onto_first}
use Rattle.gate_net.specs.Steps.{◌>>=◌}

-- the pieces between line feeds; what stands behind the last of them is a line only where it isn't
-- empty
abbrev pub lines_of : List ℕ → List (List ℕ)
lines_of [] = []
lines_of (b ∷ bs) = if b == 10 then [] ∷ lines_of bs else onto_first b (lines_of bs)

-- the pieces between single spaces: two spaces in a row, or one at an end, make an empty field
abbrev pub fields_of : List ℕ → List (List ℕ)
fields_of line = slice_split (λ b. b == 32) line

-- the name that a field says: an escaped name, which begins with a backslash, has a space of its
-- own at its end (IEEE 1364-2005, 3.7.1); any other is the field as it stands
abbrev pub name_in : List ℕ → List ℕ
name_in [] = []
name_in (b ∷ bs) = if b == 92 then b ∷ bs ++ 32 ∷ [] else b ∷ bs

-- the fields of each line
unfoldable pub table_of : List ℕ → List (List (List ℕ))
table_of text = map fields_of (lines_of text)

-- both fields, where there are two
abbrev pub two_of : List (List ℕ) → Option (List ℕ × List ℕ)
two_of [] = None
two_of (first ∷ []) = None
two_of (first ∷ second ∷ []) = Some (first, second)
two_of (first ∷ second ∷ third ∷ others) = None

-- the value of a decimal digit
abbrev pub digit_of : ℕ → Option ℕ
digit_of b = if nat_le 48 b && nat_le b 57 then Some (b - 48) else None

-- the number that these decimal digits make behind those of n
unfoldable pub number_after : ℕ → List ℕ → Option ℕ
number_after n [] = Some n
number_after n (d ∷ ds) = do
  value ← digit_of d
  number_after (n * 10 + value) ds

-- a time up to 2 ^ 40
unfoldable pub within_limit : ℕ → Option ℕ
within_limit time = if nat_le time (2 ^ 40) then Some time else None

-- the number that these decimal digits make behind those of n, at most 2 ^ 40
abbrev pub limited_after : ℕ → List ℕ → Option ℕ
limited_after n digits = number_after n digits >>= within_limit

-- a time of 1 to 20 decimal digits
unfoldable pub time_of : List ℕ → Option ℕ
time_of field =
    if nat_lt 0 (length field) && nat_le (length field) 20 then limited_after 0 field else None
