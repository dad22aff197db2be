use Rattle.std.proofs.Common.{◌≡◌, map, take}
use Rattle.std.specs.List.{zip}
use Rattle.hierarchy_plans.specs.Lists.{plan_with}
use Rattle.hierarchy_plans.proofs.plans.plan_list.Given as goal

abbrev pub invariant-loop-i : goal.invariant-loop-i
invariant-loop-i l = l.plans ≡ map (plan_with l.file l.numbers) (zip (take l.i l.reached) (take l.i l.modules))
