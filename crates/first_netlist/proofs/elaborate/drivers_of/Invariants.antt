use Rattle.std.proofs.Common.{◌≡◌, ◌++◌, take}
use Rattle.gate_net.specs.Sound.{driven_nets}
use Rattle.first_netlist.proofs.elaborate.drivers_of.Given as goal

abbrev pub invariant-loop-gate : goal.invariant-loop-gate
invariant-loop-gate l = l.drivers.items ≡ l.inputs ++ driven_nets (take l.gate-index l.gates)
