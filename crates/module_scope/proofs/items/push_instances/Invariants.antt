use Rattle.std.proofs.Common.{◌≡◌, ◌++◌, take}
use Rattle.std.specs.List.{flat_map}
use Rattle.module_scope.specs.Mentions.{inst_mentions}
use Rattle.module_scope.proofs.items.push_instances.Given as goal

abbrev pub invariant-loop-inst : goal.invariant-loop-inst
invariant-loop-inst l = l.list ≡ l.initial.list ++ flat_map inst_mentions (take l.inst-index l.instances)
