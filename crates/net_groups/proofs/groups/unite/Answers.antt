use Rattle.std.proofs.Common.{arith}
use Rattle.net_groups.proofs.Walks.{walk_into}
use Rattle.net_groups.proofs.Halving.{IsRegrouped-on}
use Rattle.net_groups.proofs.Uniting.{IsUnited-set, IsUnited-turn}
use Rattle.net_groups.proofs.groups.unite.Goals as goal

pub returns-then-one-other : goal.returns-then-one-other
returns-then-one-other c =
    let first = c.find_root-one.ensures in
    let second = c.find_root-other.ensures in
    IsUnited-turn _ _ _ _
    (IsUnited-set _ _ _ _ _ _ (IsRegrouped-on _ _ _ first.regrouped second.regrouped) second.forest
    (omega (arith, second.within, second.regrouped.same_length)) (omega arith) second.root second.above
    (walk_into second.regrouped.from_old first.above))

pub returns-else-one-other : goal.returns-else-one-other
returns-else-one-other c =
    let first = c.find_root-one.ensures in
    let second = c.find_root-other.ensures in
    IsUnited-set _ _ _ _ _ _ (IsRegrouped-on _ _ _ first.regrouped second.regrouped) second.forest
    (omega (arith, first.within, first.regrouped.same_length, second.regrouped.same_length)) (omega arith)
    (second.roots c.find_root-one.result (omega (arith, first.within, first.regrouped.same_length)) first.root)
    (walk_into second.regrouped.from_old first.above) second.above
