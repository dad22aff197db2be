use Rattle.std.proofs.Common.{◌≡◌, take}
use Rattle.std.specs.List.{flat_map}
use Rattle.rule_places.specs.Places.{first_place}
use Rattle.gate_rules.specs.Rules.{pair_widths}
use Rattle.gate_rules.proofs.widths.pairs_width.Given as goal

abbrev pub invariant-loop-pair : goal.invariant-loop-pair
invariant-loop-pair l = l.first ≡ first_place (flat_map pair_widths (take l.pair-index l.pairs))
