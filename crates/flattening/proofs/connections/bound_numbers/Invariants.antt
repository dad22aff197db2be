use Rattle.std.proofs.Common.{◌≡◌, take}
use Rattle.netlist_plan.specs.Flattening.{bound_numbers}
use Rattle.flattening.proofs.connections.bound_numbers.Given as goal

abbrev pub invariant-loop-connection : goal.invariant-loop-connection
invariant-loop-connection l = l.outside.items ≡ bound_numbers l.numbers l.ports (take l.connection-index l.connections)
