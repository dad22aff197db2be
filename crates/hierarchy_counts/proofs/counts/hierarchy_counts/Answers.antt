use Rattle.std.proofs.Common.{◌≡◌, ◌+◌, ◌∙◌, ap, arith}
use Rattle.hierarchy_counts.specs.declared.counts.HierarchyCounts.{HierarchyCounts}
use Rattle.hierarchy_counts.specs.declared.rounds.Row.{Row}
use Rattle.hierarchy_counts.specs.Hierarchy.{levels_inside}
use Rattle.hierarchy_counts.specs.Rounds.{cap}
use Rattle.hierarchy_counts.proofs.HierarchyLaws.{levels_inside-most}
use Rattle.hierarchy_counts.proofs.counts.hierarchy_counts.Goals as goal

pub returns-clause-depth : goal.returns-clause-depth
returns-clause-depth c =
    let most = levels_inside-most c.args.instances.now 64 c.args.top in
    let levels : c.in_ok-row.row.levels ≡ cap (levels_inside c.args.instances.now 64 c.args.top) = ap (λ (r : Row). r.levels) c.in_ok-row.ensures in
    let made : c.counts_with.result.depth ≡ cap (c.in_ok-row.row.levels + 1) = ap (λ (h : HierarchyCounts). h.depth) c.counts_with.ensures in
    omega arith
