use Rattle.std.proofs.Common.{length}
use Rattle.flat_net.specs.declared.kinds.Cell.TheVariants.{Element as ElementCell, Island as IslandCell}
use Rattle.plain_sim.proofs.phases.pass_over.Goals as goal

pub settle_islands-requires-clause-elements : goal.settle_islands-requires-clause-elements
settle_islands-requires-clause-elements g c =
    let parts = c.args.flat.now.parts in
    c.mature_all.ensures.fits parts ElementCell (length parts.elements) c.requires.elements

pub settle_islands-requires-clause-islands : goal.settle_islands-requires-clause-islands
settle_islands-requires-clause-islands g c =
    let parts = c.args.flat.now.parts in
    c.mature_all-2.ensures.fits parts IslandCell (length parts.islands) c.requires.islands

pub evaluate_elements-requires-clause-elements : goal.evaluate_elements-requires-clause-elements
evaluate_elements-requires-clause-elements g c =
    let parts = c.args.flat.now.parts in
    c.mature_all.ensures.fits parts ElementCell (length parts.elements) c.requires.elements
