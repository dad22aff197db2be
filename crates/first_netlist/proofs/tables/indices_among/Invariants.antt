use Rattle.std.proofs.Common.{◌≡◌, ◌++◌, drop}
use Rattle.first_netlist.specs.Meaning.{indices_from}
use Rattle.first_netlist.proofs.tables.indices_among.Given as goal

abbrev pub invariant-loop-index : goal.invariant-loop-index
invariant-loop-index l = indices_from 0 l.table l.names ≡ l.indices.items ++ indices_from l.index l.table (drop l.index l.names)
