-- A shelf in memory, as contracts see it, and what its calls leave.
use Rattle.std.specs.Prelude.{◌≡◌, ℕ, ◌+◌, ◌-◌, ◌^◌, min, Bool, not, ◌&&◌, ◌||◌, is_none, List, [], drop, Option, None, Some, is_some, refl}
use Rattle.outside_io.specs.Files.{file_of, is_listed}
use Rattle.outside_io.specs.Outside.{one_more}
use Rattle.outside_io.specs.declared.lists.NamedFile.{NamedFile}

-- an open file: its name, and what is left of it
pub record OpenText : Type 0 where
  pub name : List ℕ
  pub left : List ℕ

-- files, the calls that fail, how many calls there were, the open file, and what `Shelf` counts
pub record ShelfState : Type 0 where
  pub files : List NamedFile
  pub fails : List ℕ
  pub calls : ℕ
  pub opened : Option OpenText
  pub faults : ℕ
  pub blamed : List ℕ
  pub given : ℕ

-- the name of the open file
abbrev pub open_name : Option OpenText → Option (List ℕ)
open_name None = None
open_name (Some file) = Some file.name

-- what is left of the open file
abbrev pub open_left : Option OpenText → List ℕ
open_left None = []
open_left (Some file) = file.left

-- after the count of one more call
abbrev pub with_call : ShelfState → ShelfState
with_call s = record s { calls = one_more s.calls }

-- whether the next call is one that fails
abbrev pub is_failing : ShelfState → Bool
is_failing s = is_listed s.fails s.calls

-- with one more fault, the blamed name, and no file open
abbrev pub with_fault : ShelfState → List ℕ → ShelfState
with_fault s name = record s { opened = None; faults = one_more s.faults; blamed = name }

-- after a call that failed, with the name that is blamed
abbrev pub after_failed : ShelfState → List ℕ → ShelfState
after_failed s name = with_fault (with_call s) name

-- whether an `open` of this name is answered Ok: the call isn't listed, and the file is there
abbrev pub opens : ShelfState → List ℕ → Bool
opens s name = not (is_failing s) && is_some (file_of s.files name)

-- after an `open` of a file of these bytes
abbrev pub after_open : ShelfState → List ℕ → List ℕ → ShelfState
after_open s name bytes = record (with_call s) { opened = Some (record { name = name; left = bytes }); given = 0 }

-- whether a `read` is answered Ok: no file is open, or the call isn't listed
abbrev pub reads : ShelfState → Bool
reads s = is_none s.opened || not (is_failing s)

-- an open file after a read of n bytes
abbrev pub read_on : ℕ → Option OpenText → Option OpenText
read_on n None = None
read_on n (Some file) = Some (record { name = file.name; left = drop n file.left })

-- after a `read` of n bytes
abbrev pub after_read : ShelfState → ℕ → ShelfState
after_read s n = record (with_call s) { opened = read_on n s.opened; given = min (s.given + n) (2 ^ 64 - 1) }

-- where no file is open nothing is left
pub open_left-none : (o : Option OpenText) → open_name o ≡ None → open_left o ≡ []
open_left-none None e = refl
open_left-none (Some file) e = cc
