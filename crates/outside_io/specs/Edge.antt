-- What is known of a shelf over real files, and of a sink over a real stream.
use Rattle.std.specs.Prelude.{ℕ, ◌+◌, ◌-◌, ◌^◌, min, List, Option, None, Some, string_bytes}
use Rattle.outside_io.specs.Outside.{one_more}
use Rattle.outside_io.specs.declared.edge.OpenedFile.{OpenedFile}

-- the name of the open file, what std knows to be left of it, the count of faults, the blamed name, and how many bytes
-- were read since the last `open`
pub record EdgeState : Type 0 where
  pub named : Option (List ℕ)
  pub remaining : Option (List ℕ)
  pub faults : ℕ
  pub blamed : List ℕ
  pub given : ℕ

-- the name of the open file
abbrev pub opened_name : {S : Type 0} → Option (OpenedFile S) → Option (List ℕ)
opened_name None = None
opened_name (Some opened) = Some (string_bytes opened.name)

-- what is left of the open file, where it is known
abbrev pub left_of : {S : Type 0} → (S → Option (List ℕ)) → Option (OpenedFile S) → Option (List ℕ)
left_of remaining None = None
left_of remaining (Some opened) = remaining opened.file

-- after an `open` that was Ok, with what is left of the file
abbrev pub with_open : EdgeState → List ℕ → Option (List ℕ) → EdgeState
with_open s name left = record s { named = Some name; remaining = left; given = 0 }

-- after a `read` of n bytes, with what is left of the file
abbrev pub with_read : EdgeState → ℕ → Option (List ℕ) → EdgeState
with_read s n left = record s { remaining = left; given = min (s.given + n) (2 ^ 64 - 1) }

-- with one more fault, the blamed name, and no file open
abbrev pub with_fault : EdgeState → List ℕ → EdgeState
with_fault s name = record { named = None; remaining = None; faults = one_more s.faults; blamed = name; given = s.given }

-- what std knows the stream to hold, and the count of faults
pub record StreamState : Type 0 where
  pub contents : Option (List ℕ)
  pub faults : ℕ
