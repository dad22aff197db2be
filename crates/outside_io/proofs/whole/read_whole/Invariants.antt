-- The bytes so far are the first of the named file, and no fault was counted.
use Rattle.std.proofs.Common.{◌≡◌, ◌+◌, ◌-◌, ◌≤◌, Some, vec_len}
use Rattle.outside_io.specs.Outside.{content_of, told_after}
use Rattle.outside_io.proofs.whole.read_whole.Given as goal

abbrev pub invariant-loop-bytes : goal.invariant-loop-bytes
invariant-loop-bytes g l = record {
  files_stay : g.F.Shelf.files l.shelf ≡ g.F.Shelf.files l.fn.shelf;
  quiet : g.F.Shelf.faults l.shelf ≡ g.F.Shelf.faults l.fn.shelf;
  blames_none : g.F.Shelf.blamed l.shelf ≡ g.F.Shelf.blamed l.fn.shelf;
  opened : g.F.Shelf.named l.shelf ≡ Some l.name;
  within : vec_len l.bytes ≤ l.limit;
  taken : g.F.Shelf.given l.shelf ≡ vec_len l.bytes;
  begun : content_of (g.F.Shelf.files l.fn.shelf) l.name ≡ told_after l.bytes.items (g.F.Shelf.rest l.shelf);
}

abbrev pub decreases-loop-bytes : goal.decreases-loop-bytes
decreases-loop-bytes g l = l.limit + 1 - vec_len l.bytes
