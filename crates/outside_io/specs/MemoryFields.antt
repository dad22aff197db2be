-- How a shelf in memory keeps its open file.
use Rattle.std.specs.Prelude.{ℕ, ◌<◌, ◌≤◌, List, [], drop, length, Option, None, Some, string_bytes, slice_index_or}
use Rattle.std.specs.Option.{ForSome}
use Rattle.outside_io.specs.MemoryShelf.{OpenText}
use Rattle.outside_io.specs.declared.lists.NamedFile.{NamedFile}
use Rattle.outside_io.specs.declared.memory_shelf.OpenFile.{OpenFile}

-- the bytes of the file at this place
abbrev pub bytes_at : List NamedFile → ℕ → List ℕ
bytes_at files place = (slice_index_or files place (record { name = []; bytes = [] })).bytes

-- the open file, with what is left of it
abbrev pub open_text : List NamedFile → Option OpenFile → Option OpenText
open_text files None = None
open_text files (Some file) = Some (record { name = string_bytes file.name; left = drop file.at (bytes_at files file.index) })

-- the open file is one of the files, and no more of it was read than it has
abbrev pub IsOpenIn : List NamedFile → Option OpenFile → Type 0
IsOpenIn files opened = ForSome opened (λ file. (file.index < length files) × (file.at ≤ length (bytes_at files file.index)))
