use Rattle.std.proofs.Common.{◌<◌, length}
use Rattle.net_groups.specs.Forests.{IsForest, IsParent, IsRegrouped, KeepsRoots}
use Rattle.net_groups.specs.Joins.{Walk}
use Rattle.net_groups.proofs.forest.find_root.Given as goal

abbrev pub invariant-loop-parents : goal.invariant-loop-parents
invariant-loop-parents l = record {
  within : l.at < length l.parents;
  forest : IsForest l.parents;
  regrouped : IsRegrouped l.initial.parents l.parents;
  roots : KeepsRoots l.initial.parents l.parents;
  above : Walk (IsParent l.initial.parents) l.net l.at;
}

abbrev pub decreases-loop-parents : goal.decreases-loop-parents
decreases-loop-parents l = l.at
