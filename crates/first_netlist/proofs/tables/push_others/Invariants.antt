use Rattle.std.proofs.Common.{◌≡◌, ◌++◌, take, filter, not}
use Rattle.name_table.specs.Names.{is_among}
use Rattle.first_netlist.proofs.tables.push_others.Given as goal

abbrev pub invariant-loop-name : goal.invariant-loop-name
invariant-loop-name l = l.others.items ≡ l.initial.others.items ++ filter (λ name. not (is_among name l.table)) (take l.name-index l.names)
