use Rattle.std.proofs.Common.{List, ◌++◌, map, take}
use Rattle.v_tree.specs.declared.locations.Name.{Name}
use Rattle.module_graph.specs.Numbers.{IsWhole}
use Rattle.module_graph.specs.Tokens.{HasTokens}
use Rattle.module_graph.proofs.repeated.put_modules.Given as goal

abbrev pub invariant-loop-module : goal.invariant-loop-module
invariant-loop-module l = record {
  whole : IsWhole l.table;
  tokens : (names : List Name) → HasTokens names l.initial.table → HasTokens (names ++ map (λ x. x.name) (take l.module-index l.modules)) l.table;
}
