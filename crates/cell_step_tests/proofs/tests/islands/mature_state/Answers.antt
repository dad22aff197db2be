-- What takes effect keeps the island's fit, as that of every cell.
use Rattle.std.proofs.Common.{subst}
use Rattle.flat_net.specs.declared.kinds.Cell.TheVariants.{Island as IslandCell}
use Rattle.cell_step.specs.Fitting.{FitsCell}
use Rattle.cell_step_tests.proofs.tests.islands.mature_state.Goals as goal

pub returns : goal.returns
returns g c = λ parts i fits. subst (FitsCell parts (IslandCell i)) c.in-Island.is (c.mature.ensures.fits parts (IslandCell i) fits)
