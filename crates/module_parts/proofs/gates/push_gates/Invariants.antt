use Rattle.std.proofs.Common.{◌≡◌, ◌++◌, map, take}
use Rattle.module_parts.specs.Parts.{gate_part}
use Rattle.module_parts.proofs.gates.push_gates.Given as goal

abbrev pub invariant-loop-terms : goal.invariant-loop-terms
invariant-loop-terms l = l.parts ≡ l.initial.parts ++ map (gate_part l.item) (take l.terms-index l.gates)
