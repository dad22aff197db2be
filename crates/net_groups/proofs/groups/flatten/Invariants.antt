use Rattle.std.proofs.Common.{◌≡◌, ◌<◌, ℕ, slice_index}
use Rattle.net_groups.specs.Forests.{IsForest, IsRegrouped}
use Rattle.net_groups.proofs.groups.flatten.Given as goal

abbrev pub invariant-loop-net : goal.invariant-loop-net
invariant-loop-net l = record {
  forest : IsForest l.parents;
  regrouped : IsRegrouped l.initial.parents l.parents;
  flat : (net : ℕ) → net < l.net → slice_index l.parents (slice_index l.parents net) ≡ slice_index l.parents net;
}
