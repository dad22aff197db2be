use Rattle.std.proofs.Common.{◌<◌, length, arith}
use Rattle.primitive_rules.specs.Ports.{item_starts}
use Rattle.primitive_rules.proofs.Lists.{first_value_more}
use Rattle.primitive_rules.proofs.ports.items_value.Goals as goal

pub loop-item-preserved : goal.loop-item-preserved
loop-item-preserved c =
    let within : c.loop-item.item-index < length c.args.items.now = omega arith in
    let more = first_value_more item_starts c.args.items.now c.loop-item.item-index c.item-item.result within in
    grind (arith, more, c.loop-item.invariant, c.item-item.is, c.item_value.ensures, c.or-first.ensures)
