use Rattle.std.proofs.Common.{◌≡◌, true, take}
use Rattle.name_table.specs.Names.{is_distinct}
use Rattle.first_netlist.proofs.tables.table_of.Given as goal

abbrev pub invariant-loop-name : goal.invariant-loop-name
invariant-loop-name l = (l.table ≡ take l.name-index l.names) × (is_distinct l.table ≡ true)
