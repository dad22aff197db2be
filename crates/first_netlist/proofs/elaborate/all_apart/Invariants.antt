use Rattle.std.proofs.Common.{◌≡◌, true, take}
use Rattle.first_netlist.specs.Meaning.{is_apart}
use Rattle.first_netlist.proofs.elaborate.all_apart.Given as goal

abbrev pub invariant-loop-net : goal.invariant-loop-net
invariant-loop-net l = (l.seen.keys ≡ take l.net-index l.nets) × (is_apart (take l.net-index l.nets) ≡ true)
