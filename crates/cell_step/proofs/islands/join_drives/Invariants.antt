use Rattle.std.proofs.Common.{◌≡◌, take}
use Rattle.cell_step.specs.Owns.{driver_signals}
use Rattle.cell_step.proofs.islands.join_drives.Given as goal

-- the first drives have been joined
abbrev pub invariant-loop-drive : goal.invariant-loop-drive
invariant-loop-drive g l =
    l.own ≡ driver_signals l.flat.parts (g.V.View.readings l.view) l.island (take l.drive-index l.island.drives)
