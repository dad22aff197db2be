use Rattle.std.proofs.Common.{◌≡◌, take}
use Rattle.netlist_meaning.specs.Netlist.{port_nets}
use Rattle.reached_parts.specs.Sides.{is_on}
use Rattle.reached_parts.proofs.ports.port_nets.Given as goal

abbrev pub invariant-loop-port : goal.invariant-loop-port
invariant-loop-port l = l.nets.items ≡ port_nets (is_on l.side) l.table (take l.port-index l.ports)
