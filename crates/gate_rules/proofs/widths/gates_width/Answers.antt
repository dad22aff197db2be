use Rattle.std.proofs.Common.{arith}
use Rattle.gate_rules.specs.Rules.{terms_widths}
use Rattle.item_parts.proofs.Firsts.{next_first}
use Rattle.gate_rules.proofs.widths.gates_width.Goals as goal

pub loop-terms-preserved : goal.loop-terms-preserved
loop-terms-preserved c =
    next_first (terms_widths c.args.scope.now) c.args.gates.now c.loop-terms.terms-index c.terms-item.result c.loop-terms.first c.terms_width.result c.earliest-first.result
    (omega arith) c.terms-item.is c.loop-terms.invariant c.terms_width.ensures c.earliest-first.ensures
