use Rattle.std.proofs.Common.{◌≡◌, drop}
use Rattle.udp_table.specs.Pairs.{pairwise}
use Rattle.udp_table.specs.Symbols.{has_value}
use Rattle.udp_table.proofs.matching.hold.Given as goal

abbrev pub invariant-loop-k : goal.invariant-loop-k
invariant-loop-k l =
    pairwise has_value (drop l.k l.symbols) (drop l.k l.values) ≡ pairwise has_value l.symbols l.values
