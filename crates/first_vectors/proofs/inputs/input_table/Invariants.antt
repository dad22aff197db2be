use Rattle.std.proofs.Common.{◌≡◌, map, take}
use Rattle.first_vectors.specs.Reading.{name_of}
use Rattle.first_vectors.proofs.inputs.input_table.Given as goal

abbrev pub invariant-loop-net : goal.invariant-loop-net
invariant-loop-net l = l.table ≡ map (name_of l.netlist) (take l.net-index l.netlist.inputs)
