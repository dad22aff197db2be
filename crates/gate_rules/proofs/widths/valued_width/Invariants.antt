use Rattle.std.proofs.Common.{◌≡◌, take}
use Rattle.std.specs.List.{flat_map}
use Rattle.rule_places.specs.Places.{first_place}
use Rattle.gate_rules.specs.Rules.{value_widths}
use Rattle.gate_rules.proofs.widths.valued_width.Given as goal

abbrev pub invariant-loop-valued : goal.invariant-loop-valued
invariant-loop-valued l = l.first ≡ first_place (flat_map value_widths (take l.valued-index l.names))
