use Rattle.std.proofs.Common.{◌<◌, length}
use Rattle.first_vectors.proofs.Names.{table_grows, name_read}
use Rattle.first_vectors.proofs.inputs.input_table.Goals as goal

pub loop-net-preserved : goal.loop-net-preserved
loop-net-preserved c =
    let lt : c.loop-net.net-index < length c.args.netlist.now.inputs = rw (← c.as_slice-net-items.ensures) c.loop-net-test.true in
    table_grows c.args.netlist.now c.loop-net.net-index c.loop-net.table c.add.new.self c.in_ok-add.field-0 c.as_slice.result.now c.requires.sound c.requires.distinct lt
    (name_read c.args.netlist.now c.as_slice-names.result.now c.as_slice-net-items.result.now c.loop-net.net-index c.as_slice.result.now c.index-names-net.result c.requires.sound lt c.as_slice-names.ensures c.as_slice-net-items.ensures c.index-names-net.is c.as_slice.ensures)
    c.loop-net.invariant c.in_ok-add.ensures.new c.in_ok-add.ensures.names
