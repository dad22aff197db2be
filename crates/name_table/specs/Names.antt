-- Names are lists of bytes. Where one stands among others, and when no two are the same.
use Rattle.std.specs.Prelude.{ℕ, suc, Bool, true, false, not, ◌&&◌, ◌||◌, List, [], ◌∷◌, Option, None, Some, if◌then◌else◌}
use Rattle.std.specs.Option.{option_map}
use Rattle.std.specs.Str.{bytes_eq}

-- two names have the same bytes
abbrev pub same_name : List ℕ → List ℕ → Bool
same_name a b = bytes_eq a b

-- a name stands among others
abbrev pub is_among : List ℕ → List (List ℕ) → Bool
is_among name [] = false
is_among name (other ∷ others) = same_name name other || is_among name others

-- the index of a name's first entry, from 0
abbrev pub index_of : List ℕ → List (List ℕ) → Option ℕ
index_of name [] = None
index_of name (other ∷ others) = if same_name name other then Some 0 else option_map suc (index_of name others)

-- no name stands twice
abbrev pub is_distinct : List (List ℕ) → Bool
is_distinct [] = true
is_distinct (name ∷ names) = not (is_among name names) && is_distinct names
