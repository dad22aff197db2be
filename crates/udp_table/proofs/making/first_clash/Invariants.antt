use Rattle.udp_table.specs.Clashes.{NoClash}
use Rattle.udp_table.proofs.making.first_clash.Given as goal

abbrev pub invariant-loop-i : goal.invariant-loop-i
invariant-loop-i l = NoClash l.rows l.i
