use Rattle.std.proofs.Common.{◌≡◌, ◌++◌, take}
use Rattle.std.specs.List.{flat_map}
use Rattle.module_scope.specs.Mentions.{optional_mentions}
use Rattle.module_scope.specs.declared.roles.Side.TheVariants.{Connection}
use Rattle.module_scope.proofs.items.push_ordered.Given as goal

abbrev pub invariant-loop-value : goal.invariant-loop-value
invariant-loop-value l = l.list ≡ l.initial.list ++ flat_map (optional_mentions Connection) (take l.value-index l.values)
