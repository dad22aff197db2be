-- The entries of a cell have rising faults.
use Rattle.std.proofs.Common.{◌^◌}
use Rattle.divergence_list.proofs.Rising.{each-RisesWithin, IsRising-RisesWithin}
use Rattle.divergence_list.proofs.spread.Spread.at_cell.Goals as goal

pub returns-clause-rising : goal.returns-clause-rising
returns-clause-rising g c =
    rw c.at_cell.ensures (IsRising-RisesWithin 0 (2 ^ 32) _ (c.self.invariant.sound c.args.cell))

pub returns-clause-each : goal.returns-clause-each
returns-clause-each g c k =
    rw (c.at_cell.ensures, ← c.self.view_is) (each-RisesWithin 0 (2 ^ 32) _ k (c.self.invariant.sound c.args.cell))
