use Rattle.std.proofs.Common.{◌≡◌, ◌++◌, length, map}
use Rattle.first_vectors.specs.Fields.{fields_of, name_in}
use Rattle.first_vectors.proofs.Names.{Seen}
use Rattle.first_vectors.proofs.inputs.listed_inputs.Given as goal

abbrev pub invariant-loop-inputs : goal.invariant-loop-inputs
invariant-loop-inputs l = record {
  parts : map name_in (fields_of l.names) ≡ l.seen ++ map name_in (fields_of l.rest);
  seen : Seen l.netlist l.seen l.inputs.items;
}

abbrev pub decreases-loop-inputs : goal.decreases-loop-inputs
decreases-loop-inputs l = length l.rest
