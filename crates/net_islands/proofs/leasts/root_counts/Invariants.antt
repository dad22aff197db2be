use Rattle.std.proofs.Common.{◌≡◌, length}
use Rattle.net_islands.specs.Leasts.{root_counts, roots}
use Rattle.net_islands.proofs.leasts.root_counts.Given as goal

abbrev pub invariant-loop-net : goal.invariant-loop-net
invariant-loop-net l = record {
  counts : l.counts.items ≡ root_counts l.leasts l.net;
  count : l.count ≡ length (roots l.leasts l.net);
}
