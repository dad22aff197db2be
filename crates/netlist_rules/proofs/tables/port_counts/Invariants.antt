use Rattle.std.proofs.Common.{◌≡◌, take}
use Rattle.netlist_rules.specs.Items.{port_counts}
use Rattle.netlist_rules.proofs.tables.port_counts.Given as goal

abbrev pub invariant-loop-udp : goal.invariant-loop-udp
invariant-loop-udp l = l.counts.items ≡ port_counts (take l.udp-index l.udps)
