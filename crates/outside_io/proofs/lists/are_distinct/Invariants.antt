-- No file before this place has the name of a later one.
use Rattle.std.proofs.Common.{◌≢◌, ℕ, ◌<◌, length, get_or}
use Rattle.outside_io.specs.declared.lists.NamedFile.{NamedFile}
use Rattle.outside_io.proofs.lists.are_distinct.Given as goal

abbrev pub invariant-loop-i : goal.invariant-loop-i
invariant-loop-i l = (j k : ℕ) (d : NamedFile) → j < l.i → j < k → k < length l.files → (get_or l.files j d).name ≢ (get_or l.files k d).name
