use Rattle.cell_step.proofs.Owning.{turn-own, turn-joined}
use Rattle.cell_step.proofs.islands.join_drives.Goals as goal

pub join_drive-requires-clause-own : goal.join_drive-requires-clause-own
join_drive-requires-clause-own g c =
    turn-own c.args.flat.now.parts (g.V.View.readings c.args.view.now) c.args.island.now c.as_slice-drive-items.result.now
    c.as_slice-kinds.result.now c.loop-drive.own c.loop-drive.drive-index c.as_slice-drive-items.ensures c.as_slice-kinds.ensures
    c.requires.kinds c.requires.places c.loop-drive-test.true c.loop-drive.invariant

pub loop-drive-preserved : goal.loop-drive-preserved
loop-drive-preserved g c =
    turn-joined c.args.flat.now.parts (g.V.View.readings c.args.view.now) c.args.island.now c.as_slice-drive-items.result.now
    c.as_slice-kinds.result.now c.loop-drive.own c.loop-drive.drive-index c.as_slice-drive-items.ensures c.as_slice-kinds.ensures
    c.requires.kinds c.requires.places c.loop-drive-test.true c.loop-drive.invariant c.drive-driven.result c.join_drive.new.own
    c.drive-driven.ensures c.join_drive.ensures
