use Rattle.std.proofs.Common.{ap, sym, ◌∙◌}
use Rattle.flat_net.specs.declared.kinds.Patch.TheVariants.{NetStuck}
use Rattle.cell_step.specs.Owns.{driver_signals, stick_nets}
use Rattle.cell_step.proofs.Owning.{own_signals-stuck, own_signals-free, free-of}
use Rattle.cell_step.proofs.islands.read_own.Goals as goal

pub returns-in-NetStuck : goal.returns-in-NetStuck
returns-in-NetStuck g c =
    let parts = c.args.flat.now.parts in
    let r = g.V.View.readings c.args.view.now in
    let island = c.args.island.now in
    let stuck = NetStuck c.in-NetStuck.net c.in-NetStuck.value in
    c.stick_net.ensures
    ∙ ap (λ l. stick_nets stuck l c.join_drives.new.own) c.as_slice.ensures
    ∙ ap (stick_nets stuck island.nets) c.join_drives.ensures
    ∙ ap (λ p. stick_nets p island.nets (driver_signals parts r island island.drives)) (sym c.in-NetStuck.is)
    ∙ own_signals-stuck parts r c.args.patch island

pub returns-in_default : goal.returns-in_default
returns-in_default g c =
    c.join_drives.ensures
    ∙ own_signals-free c.args.flat.now.parts (g.V.View.readings c.args.view.now) c.args.patch c.args.island.now
    (free-of c.args.patch c.in_default.not-NetStuck)
