use Rattle.std.proofs.Common.{◌≡◌, take}
use Rattle.primitive_rules.specs.Counting.{count_names}
use Rattle.primitive_rules.proofs.counts.NameCounts.count_all.Given as goal

abbrev pub invariant-loop-name : goal.invariant-loop-name
invariant-loop-name l = l.self ≡ count_names l.initial.self (take l.name-index l.names)
