use Rattle.std.proofs.Common.{◌≡◌, map, take}
use Rattle.netlist_plan.specs.Plan.{plan_net}
use Rattle.module_plan.proofs.nets.plan_nets.Given as goal

abbrev pub invariant-loop-net : goal.invariant-loop-net
invariant-loop-net l = l.made ≡ map (plan_net l.scope) (take l.net-index l.nets)
