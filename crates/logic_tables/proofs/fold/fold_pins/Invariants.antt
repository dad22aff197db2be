use Rattle.std.proofs.Common.{◌≡◌, take}
use Rattle.std.specs.Prelude.{fold}
use Rattle.logic_tables.specs.Cells.{cell_of}
use Rattle.logic_tables.proofs.fold.fold_pins.Given as goal

abbrev pub invariant-loop-pin : goal.invariant-loop-pin
invariant-loop-pin l = l.value ≡ fold (cell_of l.table.cells) l.fn.unit (take l.pin-index l.pins)
