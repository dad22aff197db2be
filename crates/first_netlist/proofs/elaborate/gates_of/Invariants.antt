use Rattle.std.proofs.Common.{◌≡◌, drop}
use Rattle.gate_net.specs.Steps.{each}
use Rattle.first_netlist.specs.Meaning.{gate_of}
use Rattle.first_netlist.proofs.Each.{with_front}
use Rattle.first_netlist.proofs.elaborate.gates_of.Given as goal

abbrev pub invariant-loop-instance : goal.invariant-loop-instance
invariant-loop-instance l = each (gate_of l.nets) l.instances ≡ with_front l.gates.items (each (gate_of l.nets) (drop l.instance-index l.instances))
