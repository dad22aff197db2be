use Rattle.std.proofs.Common.{◌≡◌, map, take}
use Rattle.netlist_plan.specs.Plan.{plan_net}
use Rattle.netlist_plan.specs.Flattening.{bit_count}
use Rattle.plan_counts.proofs.nets.plan_bits.Given as goal

abbrev pub invariant-loop-net : goal.invariant-loop-net
invariant-loop-net l = l.bits ≡ bit_count (map (plan_net l.scope) (take l.net-index l.nets))
