use Rattle.std.proofs.Common.{◌≡◌, take}
use Rattle.first_netlist.specs.Meaning.{instance_names}
use Rattle.first_netlist.proofs.tables.instance_names.Given as goal

abbrev pub invariant-loop-gate : goal.invariant-loop-gate
invariant-loop-gate l = l.names.items ≡ instance_names (take l.gate-index l.gates)
