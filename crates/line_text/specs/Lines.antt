-- The lines of a text with their numbers, and which of them are passed over.
use Rattle.std.specs.Prelude.{ℕ, ◌+◌, Bool, true, not, List, [], ◌∷◌, filter, codes, nat_eq}
use Rattle.std.specs.List.{starts_with, enumerate_from}
use Rattle.std.specs.Str.Lines.{lines}
use Rattle.line_text.specs.Fields.{fields_of}

-- no field, or a first field that begins with two slashes
abbrev pub are_passed_over : List (List ℕ) → Bool
are_passed_over [] = true
are_passed_over (field ∷ fields) = starts_with nat_eq field (codes "//")

-- a line is passed over where it has blanks alone, or begins with two slashes behind them
abbrev pub is_passed_over : List ℕ → Bool
is_passed_over line = are_passed_over (fields_of line)

-- The lines that aren't passed over, each with its number, where so many lines stand before the text.
-- A line ends with a line feed, and one carriage return directly before that is dropped; the last
-- line may lack its line feed, and then keeps a carriage return at its end.
unfoldable pub lines_behind : ℕ → List ℕ → List (ℕ × List ℕ)
lines_behind before text = filter (λ line. not (is_passed_over line.1)) (enumerate_from (before + 1) (lines text))

-- those of a whole text, whose first line has number 1
abbrev pub text_lines : List ℕ → List (ℕ × List ℕ)
text_lines text = lines_behind 0 text
