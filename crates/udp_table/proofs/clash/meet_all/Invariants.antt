use Rattle.std.proofs.Common.{◌≡◌, drop}
use Rattle.udp_table.specs.Pairs.{pairwise}
use Rattle.udp_table.specs.Tests.{meet}
use Rattle.udp_table.proofs.clash.meet_all.Given as goal

abbrev pub invariant-loop-k : goal.invariant-loop-k
invariant-loop-k l =
    pairwise meet (drop l.k l.a) (drop l.k l.b) ≡ pairwise meet l.a l.b
