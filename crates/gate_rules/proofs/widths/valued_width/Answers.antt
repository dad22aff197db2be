use Rattle.std.proofs.Common.{arith}
use Rattle.gate_rules.specs.Rules.{value_widths}
use Rattle.item_parts.proofs.Firsts.{next_first}
use Rattle.gate_rules.proofs.widths.valued_width.Goals as goal

pub loop-valued-preserved : goal.loop-valued-preserved
loop-valued-preserved c =
    next_first value_widths c.args.names.now c.loop-valued.valued-index c.valued-item.result c.loop-valued.first c.unsized_in_concatenation.result c.earliest-first.result
    (omega arith) c.valued-item.is c.loop-valued.invariant c.unsized_in_concatenation.ensures c.earliest-first.ensures
