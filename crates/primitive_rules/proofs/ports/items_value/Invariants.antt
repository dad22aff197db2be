use Rattle.std.proofs.Common.{◌≡◌, take}
use Rattle.std.specs.List.{flat_map}
use Rattle.primitive_rules.specs.Arguments.{first_value}
use Rattle.primitive_rules.specs.Ports.{item_starts}
use Rattle.primitive_rules.proofs.ports.items_value.Given as goal

abbrev pub invariant-loop-item : goal.invariant-loop-item
invariant-loop-item l = l.first ≡ first_value (flat_map item_starts (take l.item-index l.items))
