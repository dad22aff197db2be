use Rattle.std.proofs.Common.{◌≡◌, map, take, true}
use Rattle.name_table.specs.Names.{is_distinct}
use Rattle.flat_net.proofs.names.table_of.Given as goal

abbrev pub invariant-loop-item : goal.invariant-loop-item
invariant-loop-item g l = record {
  names : l.table ≡ map g.N.Named.name (take l.item-index l.named);
  distinct : is_distinct (map g.N.Named.name (take l.item-index l.named)) ≡ true;
}
