use Rattle.std.proofs.Common.{arith, sym}
use Rattle.first_netlist.proofs.Indices.{index_within}
use Rattle.first_netlist.proofs.elaborate.net_at.Goals as goal

pub overflow_cast-result : goal.overflow_cast-result
overflow_cast-result c = omega (arith, c.requires, index_within c.as_slice.result.now c.args.nets.now c.in-Some.index (sym c.in-Some.ensures))
