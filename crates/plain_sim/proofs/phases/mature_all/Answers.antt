use Rattle.std.proofs.Common.{◌≡◌, refl, sym, subst, arith}
use Rattle.std.specs.Prelude.{map}
use Rattle.cell_step.specs.Changes.{mature_cell}
use Rattle.cell_step.proofs.Filling.{filled-map}
use Rattle.plain_sim.specs.Lists.{FitEach}
use Rattle.plain_sim.proofs.Stepping.{no_cell, fits-mature}
use Rattle.plain_sim.proofs.phases.mature_all.Goals as goal

pub returns-clause-states : goal.returns-clause-states
returns-clause-states c =
    filled-map (mature_cell c.args.now) no_cell no_cell c.args.cells.now c.args.cells.now c.loop-number.cells c.loop-number.number refl
    (omega arith) c.loop-number.invariant

pub returns-clause-fits : goal.returns-clause-fits
returns-clause-fits c parts cell many fits =
    subst (FitEach parts cell many) (sym (returns-clause-states c)) (fits-mature c.args.now parts cell many c.args.cells.now fits)
