use Rattle.std.proofs.Common.{◌≡◌, ◌++◌, take}
use Rattle.std.specs.List.{flat_map}
use Rattle.module_scope.specs.Mentions.{terms_mentions}
use Rattle.module_scope.proofs.items.push_gates.Given as goal

abbrev pub invariant-loop-terms : goal.invariant-loop-terms
invariant-loop-terms l = l.list ≡ l.initial.list ++ flat_map terms_mentions (take l.terms-index l.gates)
