use Rattle.std.proofs.Common.{arith}
use Rattle.primitive_rules.proofs.Parts.{has_reg_parts}
use Rattle.primitive_rules.proofs.ports.has_reg.Goals as goal

pub returns-else-header_has_reg : goal.returns-else-header_has_reg
returns-else-header_has_reg c =
    let parts = has_reg_parts c.args.udp.now in
    grind (arith, parts, c.header_has_reg.ensures, c.if-header_has_reg.false, c.items_have_reg.ensures, c.as_slice.ensures)
