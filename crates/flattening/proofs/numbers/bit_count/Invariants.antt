use Rattle.std.proofs.Common.{◌≡◌, ◌+◌, ◌*◌, ◌≤◌, drop}
use Rattle.netlist_plan.specs.Flattening.{bit_count}
use Rattle.flattening.proofs.numbers.bit_count.Given as goal

abbrev pub invariant-loop-net : goal.invariant-loop-net
invariant-loop-net l = record {
  value : l.count + bit_count (drop l.net-index l.nets) ≡ bit_count l.nets;
  room : l.count ≤ 4294967296 * l.net-index;
}
