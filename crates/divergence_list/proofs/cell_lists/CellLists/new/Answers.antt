-- No cell has a list.
use Rattle.std.proofs.Common.{[]}
use Rattle.divergence_list.specs.Parts.{numbered, contents}
use Rattle.divergence_list.proofs.Owned.{map-replicate}
use Rattle.divergence_list.proofs.cell_lists.CellLists.new.Goals as goal

pub returns : goal.returns
returns g c =
    rw c.new.ensures.items (rw (c.in_ok-numbers.ensures.items_if_clones_equal (λ y p. p)) (map-replicate (numbered (contents [])) c.args.cells 0))
