use Rattle.cell_step.proofs.CellsKept.{island-fits}
use Rattle.cell_step.proofs.changes.mature.Goals as goal

pub returns-in-Island-clause-fits : goal.returns-in-Island-clause-fits
returns-in-Island-clause-fits c =
    λ parts cell fits. island-fits parts cell c.args.now c.args.state.now c.in-Island.island c.mature_nets.new.nets c.in-Island.is c.mature_nets.ensures fits
