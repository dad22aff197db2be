use Rattle.std.proofs.Common.{◌≡◌, ℕ, List, map, take}
use Rattle.std.specs.List.{zip}
use Rattle.flattening_laws.specs.Counts.{module_counts}
use Rattle.hierarchy_plans.specs.Lists.{plan_with}
use Rattle.hierarchy_plans.proofs.counts.module_count_list.Given as goal

abbrev pub invariant-loop-i : goal.invariant-loop-i
invariant-loop-i l =
    (numbers : List ℕ) → l.counts.items ≡ map module_counts (map (plan_with l.file numbers) (zip (take l.i l.reached) (take l.i l.modules)))
