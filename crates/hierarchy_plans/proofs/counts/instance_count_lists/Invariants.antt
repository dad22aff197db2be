use Rattle.std.proofs.Common.{◌≡◌, ℕ, List, map, take}
use Rattle.std.specs.List.{zip}
use Rattle.flattening_laws.specs.Counts.{instance_counts, instance_list}
use Rattle.hierarchy_plans.specs.Lists.{plan_list, plan_with}
use Rattle.hierarchy_plans.proofs.counts.instance_count_lists.Given as goal

abbrev pub invariant-loop-i : goal.invariant-loop-i
invariant-loop-i l =
    (numbers : List ℕ) → l.lists
    ≡ map (λ p. map (instance_counts (plan_list l.file numbers l.reached)) (instance_list p.steps))
    (map (plan_with l.file numbers) (zip (take l.i l.reached) (take l.i l.file.modules)))
