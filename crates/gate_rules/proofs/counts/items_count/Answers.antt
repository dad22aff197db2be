use Rattle.std.proofs.Common.{arith}
use Rattle.gate_rules.specs.Rules.{item_counts}
use Rattle.item_parts.proofs.Firsts.{next_first}
use Rattle.gate_rules.proofs.counts.items_count.Goals as goal

pub loop-item-preserved : goal.loop-item-preserved
loop-item-preserved c =
    next_first item_counts c.args.items.now c.loop-item.item-index c.item-item.result c.loop-item.first c.item_count.result c.earliest-first.result
    (omega arith) c.item-item.is c.loop-item.invariant c.item_count.ensures c.earliest-first.ensures
