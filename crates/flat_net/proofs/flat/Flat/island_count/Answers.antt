use Rattle.std.proofs.Common.{◌≡◌, ◌≤◌, List, length, ap, arith}
use Rattle.flat_net.specs.declared.parts.Island.{Island}
use Rattle.flat_net.proofs.FlatLemmas.{few_islands}
use Rattle.flat_net.proofs.flat.Flat.island_count.Goals as goal

pub overflow_cast-result : goal.overflow_cast-result
overflow_cast-result c =
    let cells = c.self.invariant.netlist.sound.cells in
    let few : length c.self.inside.parts.islands ≤ length c.self.inside.parts.nets
    = few_islands c.self.inside.parts.nets c.self.inside.parts.elements c.self.inside.parts.islands cells.islands in
    let most : length c.self.inside.parts.nets ≤ 1048576 = cells.few_nets in
    let same : length c.as_slice.result.now ≡ length c.self.inside.parts.islands = ap (λ (islands : List Island). length islands) c.as_slice.ensures in
    omega arith
