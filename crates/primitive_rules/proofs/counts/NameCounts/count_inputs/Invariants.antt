use Rattle.std.proofs.Common.{◌≡◌, map, take}
use Rattle.primitive_rules.specs.Counting.{count_names}
use Rattle.primitive_rules.proofs.counts.NameCounts.count_inputs.Given as goal

abbrev pub invariant-loop-input : goal.invariant-loop-input
invariant-loop-input l = l.self ≡ count_names l.initial.self (map (λ i. i.name) (take l.input-index l.inputs))
