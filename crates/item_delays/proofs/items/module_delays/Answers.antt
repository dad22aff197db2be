use Rattle.std.proofs.Common.{◌≡◌, ◌∙◌, Bool, ap, sym}
use Rattle.std.specs.Prelude.{◌||◌}
use Rattle.std.specs.Option.{is_none}
use Rattle.item_delays.proofs.ListLaws.{none-is, or_first, or_second}
use Rattle.item_delays.proofs.ScaledLaws.{delays_more, long_more}
use Rattle.item_delays.proofs.items.module_delays.Goals as goal
use Rattle.item_delays.proofs.items.module_delays.Goals.{then-is_long, else-is_long}

pub loop-item-preserved : goal.loop-item-preserved
loop-item-preserved c =
    let made = c.item_ticks-ticks.result in
    let either : c.if-is_long.is_long ≡ (c.loop-item.is_long || is_none made) = elim c.if-is_long.branch [
      | then-is_long w ↦ or_first c.loop-item.is_long (is_none made) c.if-is_long.is_long w.is_long-is w.if-is_long.true
      | else-is_long w ↦ or_second c.loop-item.is_long (is_none made) c.if-is_long.is_long (w.is_long-is ∙ none-is made w.is_none-is_long.result w.is_none-is_long.ensures) w.if-is_long.false
    ] in
    record {
      delays = delays_more c.args.choice c.args.scale c.args.items.now c.loop-item.item-index c.item-item.result made c.no_delays.result c.unwrap_or.result
          c.loop-item.delays.items c.push.new.self.items c.loop-item-test.true c.item-item.is c.item_ticks-ticks.ensures c.no_delays.ensures c.unwrap_or.ensures
          c.loop-item.invariant.delays c.in_ok-push.ensures.items;
      is_long = either
          ∙ ap (λ (b : Bool). b || is_none made) c.loop-item.invariant.is_long
          ∙ sym (long_more c.args.choice c.args.scale c.args.items.now c.loop-item.item-index c.item-item.result made c.loop-item-test.true c.item-item.is c.item_ticks-ticks.ensures);
    }
