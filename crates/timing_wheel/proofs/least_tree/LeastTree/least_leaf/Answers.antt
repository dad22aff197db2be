use Rattle.std.proofs.Common.{◌≡◌, ◌<◌, ◌+◌, ◌-◌, get_or, subst, ap, ◌∙◌, arith, List, ℕ}
use Rattle.timing_wheel.specs.Times.{IsLeastOf}
use Rattle.timing_wheel.proofs.Least.{leaf_is_least}
use Rattle.timing_wheel.proofs.least_tree.LeastTree.least_leaf.Goals as goal

pub returns-clause-least : goal.returns-clause-least
returns-clause-least c =
    let cells = c.self.inside.cells.items in
    let leaves = c.self.inside.leaves in
    let leaf = c.loop-cell.cell - leaves in
    let back : leaves + leaf ≡ c.loop-cell.cell = omega arith in
    let within : leaf < leaves = omega arith in
    let same : get_or cells (leaves + leaf) 0 ≡ get_or cells 1 0 = ap (λ (k : ℕ). get_or cells k 0) back ∙ c.loop-cell.invariant.2 in
    subst (λ (times : List ℕ). IsLeastOf times (get_or times leaf 0)) c.self.view_is (leaf_is_least cells leaves leaf c.self.invariant within same)
