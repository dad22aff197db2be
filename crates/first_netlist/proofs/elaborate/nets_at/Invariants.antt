use Rattle.std.proofs.Common.{◌≡◌, drop}
use Rattle.name_table.specs.Names.{index_of}
use Rattle.gate_net.specs.Steps.{each}
use Rattle.first_netlist.proofs.Each.{with_front}
use Rattle.first_netlist.proofs.elaborate.nets_at.Given as goal

abbrev pub invariant-loop-name : goal.invariant-loop-name
invariant-loop-name l = each (λ name. index_of name l.nets) l.names ≡ with_front l.indices.items (each (λ name. index_of name l.nets) (drop l.name-index l.names))
