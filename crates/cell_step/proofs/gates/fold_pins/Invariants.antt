use Rattle.std.proofs.Common.{◌≡◌, take}
use Rattle.std.specs.Prelude.{fold, map}
use Rattle.level_range.specs.Signal.{reads}
use Rattle.logic_tables.specs.Cells.{cell_of}
use Rattle.cell_step.specs.Elements.{input_signals}
use Rattle.cell_step.proofs.gates.fold_pins.Given as goal

abbrev pub invariant-loop-place : goal.invariant-loop-place
invariant-loop-place g l =
    l.value ≡ fold (cell_of l.table.cells) l.fn.unit (map reads (take l.place (input_signals (g.V.View.readings l.view) l.patch l.e)))
