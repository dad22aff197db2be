use Rattle.std.proofs.Common.{◌≡◌, take}
use Rattle.first_netlist.specs.Form.{flat_names}
use Rattle.first_netlist.proofs.names.flat_names.Given as goal

abbrev pub invariant-loop-name : goal.invariant-loop-name
invariant-loop-name l = l.flat.items ≡ flat_names (take l.name-index l.names)
