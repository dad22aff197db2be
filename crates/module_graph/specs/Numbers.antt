-- For the code alone: the least number under each name.
use Rattle.std.specs.Prelude.{◌≡◌, ℕ, List, Option, None, Some, length, slice_get, slice_index, slice_set, nat_lt, if◌then◌else◌}
use Rattle.name_table.specs.Names.{same_name, index_of}
use Rattle.module_graph.specs.declared.numbers.NumberTable.{NumberTable}

-- each name has a number
abbrev pub IsWhole : NumberTable → Type 0
IsWhole t = length t.numbers ≡ length t.names

-- the number at an index that may be there
abbrev pub number_at : List ℕ → Option ℕ → Option ℕ
number_at numbers None = None
number_at numbers (Some index) = slice_get numbers index

-- the least number under a name
abbrev pub least_under : List ℕ → NumberTable → Option ℕ
least_under name t = number_at t.numbers (index_of name t.names)

-- the lesser of two numbers
abbrev pub lesser_number : ℕ → ℕ → ℕ
lesser_number a b = if nat_lt b a then b else a

-- the lesser of two numbers that may be there
abbrev pub lesser : Option ℕ → Option ℕ → Option ℕ
lesser None b = b
lesser (Some a) None = Some a
lesser (Some a) (Some b) = Some (lesser_number a b)

-- a number that was put under a name, where that is the name that is looked for
abbrev pub number_if : List ℕ → List ℕ → ℕ → Option ℕ
number_if wanted name number = if same_name wanted name then Some number else None

-- numbers with one that is no greater at an index
abbrev pub with_number : List ℕ → ℕ → ℕ → List ℕ
with_number numbers index number = slice_set numbers index (lesser_number (slice_index numbers index) number)
