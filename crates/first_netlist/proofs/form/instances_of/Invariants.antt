use Rattle.std.proofs.Common.{◌≡◌, drop}
use Rattle.gate_net.specs.Steps.{each}
use Rattle.first_netlist.specs.Form.{instance_of}
use Rattle.first_netlist.proofs.Each.{with_front}
use Rattle.first_netlist.proofs.form.instances_of.Given as goal

abbrev pub invariant-loop-terms : goal.invariant-loop-terms
invariant-loop-terms l = each instance_of l.gates ≡ with_front l.instances.items (each instance_of (drop l.terms-index l.gates))
