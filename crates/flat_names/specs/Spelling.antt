-- The flat names of nets and elements. Their form is this project's own; escaped names are written as in IEEE 1364-2005, 3.7.1.
use Rattle.std.specs.Prelude.{◌≡◌, true, ℕ, ◌<◌, ◌^◌, List, [], ◌∷◌, ◌++◌, length, Option, Some, None, if◌then◌else◌}
use Rattle.std.specs.List.{All, flat_map, list_all}
use Rattle.std.specs.Fmt.{decimal}
use Rattle.v_lexer.specs.Bytes.{is_visible}
use Rattle.v_lexer.specs.Words.{is_plain}

-- a thing's own name in its module: the text of a written one, or the number of a thing without
pub data Own : Type 0 where
  Written : List ℕ → Own
  Unnamed : ℕ → Own

-- the parts of a flat name: the names from the top inwards of the instances in which it stands, and of the gate whose
-- half it is; the thing's own name, and the index of a bit where it is one of a vector
pub record FlatName : Type 0 where
  pub path : List Own
  pub own : Own
  pub index : Option ℕ

-- a written name: as it is where that is a name without a backslash, else between a backslash and a space
abbrev pub component : List ℕ → List ℕ
component name = if is_plain name then name else 92 ∷ (name ++ 32 ∷ [])

-- a thing without a name is a number sign and its number
abbrev pub own_spelling : Own → List ℕ
own_spelling (Written name) = component name
own_spelling (Unnamed number) = 35 ∷ decimal number

-- a part of a path, with the dot behind it
abbrev pub part_spelling : Own → List ℕ
part_spelling own = own_spelling own ++ 46 ∷ []

-- all parts of a path
abbrev pub path_spelling : List Own → List ℕ
path_spelling path = flat_map part_spelling path

-- the index of a bit stands in brackets
abbrev pub bit_spelling : ℕ → List ℕ
bit_spelling index = 91 ∷ (decimal index ++ 93 ∷ [])

abbrev pub index_spelling : Option ℕ → List ℕ
index_spelling None = []
index_spelling (Some index) = bit_spelling index

-- a flat name as it is written
abbrev pub spelling : FlatName → List ℕ
spelling n = path_spelling n.path ++ (own_spelling n.own ++ index_spelling n.index)

-- the text of a name: one or more bytes from `!` to `~`
abbrev pub IsText : List ℕ → Type 0
IsText name = (0 < length name) × (list_all is_visible name ≡ true)

abbrev pub IsOwn : Own → Type 0
IsOwn (Written name) = IsText name
IsOwn (Unnamed number) = number < 2 ^ 32

abbrev pub IsIndex : Option ℕ → Type 0
IsIndex None = Unit {0}
IsIndex (Some index) = index < 2 ^ 32

-- the parts of a flat name are texts of names and numbers below 2^32
pub record IsFlatName (n : FlatName) : Type 0 where
  pub path : All IsOwn n.path
  pub own : IsOwn n.own
  pub index : IsIndex n.index
