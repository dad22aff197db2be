use Rattle.std.proofs.Common.{◌≡◌, take}
use Rattle.netlist_rules.specs.Items.{port_tables}
use Rattle.netlist_rules.proofs.tables.port_tables.Given as goal

abbrev pub invariant-loop-i : goal.invariant-loop-i
invariant-loop-i l = l.tables ≡ port_tables l.directives (take l.i l.modules)
