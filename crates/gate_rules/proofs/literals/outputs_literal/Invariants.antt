use Rattle.std.proofs.Common.{◌≡◌, take}
use Rattle.std.specs.List.{flat_map}
use Rattle.rule_places.specs.Places.{first_place}
use Rattle.gate_rules.specs.Rules.{literal_places}
use Rattle.gate_rules.proofs.literals.outputs_literal.Given as goal

abbrev pub invariant-loop-terminal : goal.invariant-loop-terminal
invariant-loop-terminal l = l.first ≡ first_place (flat_map literal_places (take l.terminal-index l.terminals))
