-- The fields of a line: its runs of bytes between blanks. Blanks at both ends of a line, and several
-- in a row, make no field.
use Rattle.std.specs.Prelude.{ℕ, Bool, ◌||◌, List, [], ◌∷◌, length, filter, Option, Some, None, nat_lt, ◌==◌}
use Rattle.std.specs.List.{slice_split}

-- a space or a tab
abbrev pub is_blank : ℕ → Bool
is_blank b = (b == 32) || (b == 9)

-- the runs of bytes between blanks
unfoldable pub fields_of : List ℕ → List (List ℕ)
fields_of line = filter (λ field. nat_lt 0 (length field)) (slice_split is_blank line)

-- the field of one, the two fields of two, and the three fields of three
abbrev pub one_of : List (List ℕ) → Option (List ℕ)
one_of (field ∷ []) = Some field
one_of _ = None

abbrev pub two_of : List (List ℕ) → Option (List ℕ × List ℕ)
two_of (first ∷ second ∷ []) = Some (first, second)
two_of _ = None

abbrev pub three_of : List (List ℕ) → Option (List ℕ × List ℕ × List ℕ)
three_of (first ∷ second ∷ third ∷ []) = Some (first, second, third)
three_of _ = None
