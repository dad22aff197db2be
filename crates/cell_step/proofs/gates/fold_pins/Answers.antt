use Rattle.std.proofs.Common.{length, arith, ap}
use Rattle.logic_tables.specs.Cells.{cell_of}
use Rattle.cell_step.proofs.GateLemmas.{fold_pins_more, fold_pins_all}
use Rattle.cell_step.proofs.gates.fold_pins.Goals as goal

pub loop-place-preserved : goal.loop-place-preserved
loop-place-preserved g c =
    let more =
    fold_pins_more (cell_of c.args.table.now.cells) c.args.unit (g.V.View.readings c.args.view.now) c.args.patch c.args.e.now c.loop-place.place
    (omega (arith, ap length c.as_slice-place-end.ensures)) in cc

pub returns : goal.returns
returns g c =
    let all =
    fold_pins_all (cell_of c.args.table.now.cells) c.args.unit (g.V.View.readings c.args.view.now) c.args.patch c.args.e.now c.loop-place.place
    (omega (arith, ap length c.as_slice-place-end.ensures)) in cc
