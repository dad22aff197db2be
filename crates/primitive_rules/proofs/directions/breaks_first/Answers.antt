use Rattle.std.proofs.Common.{arith}
use Rattle.primitive_rules.proofs.Parts.{breaks_first_parts}
use Rattle.primitive_rules.proofs.directions.breaks_first.Goals as goal

pub returns-then-not-header_has_output : goal.returns-then-not-header_has_output
returns-then-not-header_has_output c =
    let parts = breaks_first_parts c.first_port-first.result.now c.args.udp.now c.first_port-first.ensures in
    grind (arith, parts, c.header_has_output.ensures, c.if-not-header_has_output.true, c.items_have_output.ensures, c.as_slice.ensures)
