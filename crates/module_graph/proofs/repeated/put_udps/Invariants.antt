use Rattle.std.proofs.Common.{List, ◌++◌, map, take}
use Rattle.v_tree.specs.declared.locations.Name.{Name}
use Rattle.module_graph.specs.Numbers.{IsWhole}
use Rattle.module_graph.specs.Tokens.{HasTokens}
use Rattle.module_graph.proofs.repeated.put_udps.Given as goal

abbrev pub invariant-loop-udp : goal.invariant-loop-udp
invariant-loop-udp l = record {
  whole : IsWhole l.table;
  tokens : (names : List Name) → HasTokens names l.initial.table → HasTokens (names ++ map (λ x. x.name) (take l.udp-index l.udps)) l.table;
}
