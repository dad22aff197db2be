use Rattle.std.proofs.Common.{◌≡◌, map, take}
use Rattle.item_delays.specs.Scaled.{has_long_item, scaled_delays}
use Rattle.item_delays.proofs.items.module_delays.Given as goal

abbrev pub invariant-loop-item : goal.invariant-loop-item
invariant-loop-item l = record {
  delays : l.delays.items ≡ map (scaled_delays l.choice l.scale) (take l.item-index l.items);
  is_long : l.is_long ≡ has_long_item l.choice l.scale (take l.item-index l.items);
}
