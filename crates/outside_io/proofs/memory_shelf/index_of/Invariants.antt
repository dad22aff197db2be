-- No file before this place has the name.
use Rattle.std.proofs.Common.{◌≡◌, drop}
use Rattle.outside_io.specs.Files.{file_of}
use Rattle.outside_io.proofs.memory_shelf.index_of.Given as goal

abbrev pub invariant-loop-i : goal.invariant-loop-i
invariant-loop-i l = file_of l.files l.name ≡ file_of (drop l.i l.files) l.name
