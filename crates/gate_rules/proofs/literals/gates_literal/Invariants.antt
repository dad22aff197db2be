use Rattle.std.proofs.Common.{◌≡◌, take}
use Rattle.std.specs.List.{flat_map}
use Rattle.rule_places.specs.Places.{first_place}
use Rattle.gate_rules.specs.Rules.{terms_literals}
use Rattle.gate_rules.proofs.literals.gates_literal.Given as goal

abbrev pub invariant-loop-terms : goal.invariant-loop-terms
invariant-loop-terms l = l.first ≡ first_place (flat_map (terms_literals l.class) (take l.terms-index l.gates))
