use Rattle.std.proofs.lemmas.Result.{IfOk-weaker}
use Rattle.net_groups.specs.Joins.{AreGroups}
use Rattle.net_islands.proofs.LeastLemmas.{same_groups, AreGroups-leasts}
use Rattle.net_islands.proofs.leasts.pair_leasts.Goals as goal

pub returns : goal.returns
returns c =
    IfOk-weaker c.groups_of.result (λ least. AreGroups c.args.count c.args.pairs.now least.items) _
    (λ least groups.
    same_groups c.args.count c.args.pairs.now least.items _ groups (AreGroups-leasts c.args.count c.args.pairs.now c.requires))
    c.groups_of.ensures
