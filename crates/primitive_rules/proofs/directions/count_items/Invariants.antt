use Rattle.std.proofs.Common.{◌≡◌, take}
use Rattle.std.specs.List.{flat_map}
use Rattle.primitive_rules.specs.Counting.{count_names}
use Rattle.primitive_rules.specs.Ports.{item_directions}
use Rattle.primitive_rules.proofs.directions.count_items.Given as goal

abbrev pub invariant-loop-item : goal.invariant-loop-item
invariant-loop-item l = l.counts ≡ count_names l.initial.counts (flat_map item_directions (take l.item-index l.items))
