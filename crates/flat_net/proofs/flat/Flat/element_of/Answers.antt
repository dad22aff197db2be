use Rattle.std.proofs.Common.{◌≡◌, ◌<◌, ◌≤◌, ℕ, List, length, sym, ap, arith}
use Rattle.flat_net.proofs.FlatLemmas.{index_of-within}
use Rattle.flat_net.proofs.flat.Flat.element_of.Goals as goal

pub overflow_cast-result : goal.overflow_cast-result
overflow_cast-result c =
    let within : c.in_ok-place.place < length c.self.inside.element_table = index_of-within c.as_bytes.result.now c.self.inside.element_table c.in_ok-place.place (sym c.in_ok-place.ensures) in
    let same : length c.self.inside.element_table ≡ length c.self.inside.parts.element_names = ap (λ (names : List (List ℕ)). length names) c.self.invariant.element_table in
    let all : length c.self.inside.parts.element_names ≡ length c.self.inside.parts.elements = c.self.invariant.netlist.sound.names.elements.all in
    let few : length c.self.inside.parts.elements ≤ 1048576 = c.self.invariant.netlist.sound.cells.few_elements in
    omega arith
