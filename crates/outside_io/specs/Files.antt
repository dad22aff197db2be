-- Lists of files, and of calls that fail.
use Rattle.std.specs.Prelude.{◌≢◌, ℕ, Bool, List, [], ◌∷◌, Option, None, Some, if◌then◌else◌, ◌==◌}
use Rattle.std.specs.List.{AllPairs, list_any}
use Rattle.std.specs.Str.{bytes_eq}
use Rattle.outside_io.specs.declared.lists.NamedFile.{NamedFile}

-- no two files have one name
abbrev pub HaveDistinctNames : List NamedFile → Type 0
HaveDistinctNames files = AllPairs (λ a b. a.name ≢ b.name) files

-- the bytes of the file of this name, where there is one
abbrev pub file_of : List NamedFile → List ℕ → Option (List ℕ)
file_of [] name = None
file_of (file ∷ files) name = if bytes_eq file.name name then Some file.bytes else file_of files name

-- whether a call is in the list
abbrev pub is_listed : List ℕ → ℕ → Bool
is_listed calls call = list_any (λ listed. listed == call) calls
