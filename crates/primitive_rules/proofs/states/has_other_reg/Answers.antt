use Rattle.std.proofs.Common.{arith}
use Rattle.primitive_rules.proofs.Parts.{other_regs_of}
use Rattle.primitive_rules.proofs.states.has_other_reg.Goals as goal

pub returns-else-header_has_other_reg : goal.returns-else-header_has_other_reg
returns-else-header_has_other_reg c =
    let parts = other_regs_of c.first_port-first.result.now c.args.udp.now c.first_port-first.ensures in
    grind (arith, parts, c.header_has_other_reg.ensures, c.if-header_has_other_reg.false, c.items_have_other_reg.ensures, c.as_slice.ensures)

pub returns-then-header_has_other_reg : goal.returns-then-header_has_other_reg
returns-then-header_has_other_reg c =
    let parts = other_regs_of c.first_port-first.result.now c.args.udp.now c.first_port-first.ensures in
    grind (arith, parts, c.header_has_other_reg.ensures, c.if-header_has_other_reg.true)
