use Rattle.std.proofs.Common.{◌≡◌, take}
use Rattle.std.specs.List.{flat_map}
use Rattle.rule_places.specs.Places.{first_place}
use Rattle.gate_rules.specs.Rules.{item_counts}
use Rattle.gate_rules.proofs.counts.items_count.Given as goal

abbrev pub invariant-loop-item : goal.invariant-loop-item
invariant-loop-item l = l.first ≡ first_place (flat_map item_counts (take l.item-index l.items))
