use Rattle.std.proofs.Common.{◌≡◌, take}
use Rattle.std.specs.List.{flat_map}
use Rattle.rule_places.specs.Places.{first_place}
use Rattle.item_parts.specs.Literals.{unsized_literals}
use Rattle.item_parts.proofs.literals.«+unsized_literal».Given as goal

abbrev pub invariant-loop-part : goal.invariant-loop-part
invariant-loop-part l = l.first ≡ first_place (flat_map unsized_literals (take l.part-index l.part-items))
