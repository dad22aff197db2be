use Rattle.std.proofs.Common.{arith}
use Rattle.primitive_rules.proofs.Parts.{length_regs}
use Rattle.primitive_rules.proofs.states.has_several_regs.Goals as goal

pub returns : goal.returns
returns c =
    let parts = length_regs c.args.udp.now in
    grind (arith, parts, c.header_has_reg.ensures, c.one_if-header.ensures, c.count_regs.ensures.count, c.as_slice.ensures)
