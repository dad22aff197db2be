use Rattle.std.proofs.Common.{arith}
use Rattle.gate_rules.specs.Rules.{pair_widths}
use Rattle.item_parts.proofs.Firsts.{next_first}
use Rattle.gate_rules.proofs.widths.pairs_width.Goals as goal

pub loop-pair-preserved : goal.loop-pair-preserved
loop-pair-preserved c =
    next_first pair_widths c.args.pairs.now c.loop-pair.pair-index c.pair-item.result c.loop-pair.first c.unsized_in_concatenation.result c.earliest-first.result
    (omega arith) c.pair-item.is c.loop-pair.invariant c.unsized_in_concatenation.ensures c.earliest-first.ensures
