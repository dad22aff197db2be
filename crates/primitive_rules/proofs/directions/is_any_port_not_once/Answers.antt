use Rattle.std.proofs.Common.{arith}
use Rattle.primitive_rules.proofs.Parts.{any_port_not_once}
use Rattle.primitive_rules.proofs.directions.is_any_port_not_once.Goals as goal

pub returns-else-not-came_once : goal.returns-else-not-came_once
returns-else-not-came_once c =
    let d = c.in-Declared in
    let parts = any_port_not_once c.args.counts.now d.is_reg d.output d.start d.inputs in
    grind (arith, parts, d.is, c.came_once.ensures, c.if-not-came_once.false, c.is_any_input_not_once.ensures, c.as_slice-in-Declared.ensures, c.as_slice-else-not-came_once.ensures)
