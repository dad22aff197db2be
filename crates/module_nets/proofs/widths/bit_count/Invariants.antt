use Rattle.std.proofs.Common.{◌≡◌, ◌*◌, ◌≤◌, take}
use Rattle.netlist_plan.specs.Nets.{bit_count}
use Rattle.module_nets.proofs.widths.bit_count.Given as goal

abbrev pub invariant-loop-net : goal.invariant-loop-net
invariant-loop-net l = record {
  value : l.bits ≡ bit_count l.scope (take l.net-index l.nets);
  room : l.bits ≤ 18446744073709551615 * l.net-index;
}
