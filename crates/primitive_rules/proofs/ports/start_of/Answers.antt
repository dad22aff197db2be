use Rattle.std.proofs.Common.{arith}
use Rattle.primitive_rules.proofs.Parts.{first_value_parts}
use Rattle.primitive_rules.proofs.ports.start_of.Goals as goal

pub returns : goal.returns
returns c =
    let parts = first_value_parts c.args.udp.now in
    grind (arith, parts, c.header_value.ensures, c.as_slice.ensures, c.items_value.ensures, c.or.ensures, c.initial_value.ensures, c.or-2.ensures, c.unwrap_or.ensures)
