use Rattle.std.proofs.Common.{◌≡◌, ◌<◌, get_or, subst, sym, ◌∙◌, arith, List, ℕ}
use Rattle.std.proofs.lemmas.List.{get_or_default}
use Rattle.timing_wheel.specs.Times.{IsLeastOf}
use Rattle.timing_wheel.proofs.Least.{root_is_least}
use Rattle.timing_wheel.proofs.least_tree.LeastTree.least.Goals as goal

pub returns-else-self-eq0 : goal.returns-else-self-eq0
returns-else-self-eq0 c =
    let cells = c.self.inside.cells.items in
    let some : 0 < c.self.inside.leaves = omega arith in
    let root : get_or cells 1 0 ≡ c.index.result.now = sym (c.index.ensures ∙ get_or_default cells 1 _ 0 (omega (arith, c.self.invariant.size))) in
    subst (λ (times : List ℕ). IsLeastOf times c.index.result.now) c.self.view_is (subst (IsLeastOf _) root (root_is_least cells c.self.inside.leaves c.self.invariant some))
