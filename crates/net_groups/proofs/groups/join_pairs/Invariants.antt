use Rattle.std.proofs.Common.{◌≡◌, length, take}
use Rattle.net_groups.specs.Forests.{JoinsAlike}
use Rattle.net_groups.proofs.groups.join_pairs.Given as goal

abbrev pub invariant-loop-pair : goal.invariant-loop-pair
invariant-loop-pair l = record {
  all : length l.parents ≡ length l.initial.parents;
  alike : JoinsAlike (take l.pair-index l.pairs) l.parents;
}
