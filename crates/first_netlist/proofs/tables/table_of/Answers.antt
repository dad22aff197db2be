use Rattle.std.proofs.Common.{◌≡◌, false}
use Rattle.first_netlist.proofs.Apart.{table_meets, table_whole}
use Rattle.first_netlist.proofs.tables.table_of.Goals as goal

pub returns-then-not-branch-clause-table : goal.returns-then-not-branch-clause-table
returns-then-not-branch-clause-table c =
    let old : c.in_ok-add.field-0 ≡ false = cc in
    table_meets c.args.names.now c.loop-name.table c.loop-name.name-index c.name-item.result c.in_ok-add.field-0 c.loop-name-test.true c.name-item.is c.loop-name.invariant.0 (rw c.as_slice.ensures at c.in_ok-add.ensures.new) old

pub returns-clause-table : goal.returns-clause-table
returns-clause-table c = table_whole c.args.names.now c.loop-name.table c.loop-name.name-index c.loop-name-test.false c.loop-name.invariant.0 c.loop-name.invariant.1
