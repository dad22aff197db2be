use Rattle.std.proofs.Common.{arith}
use Rattle.gate_rules.specs.Rules.{terms_literals}
use Rattle.item_parts.proofs.Firsts.{next_first}
use Rattle.gate_rules.proofs.literals.gates_literal.Goals as goal

pub loop-terms-preserved : goal.loop-terms-preserved
loop-terms-preserved c =
    next_first (terms_literals c.args.class) c.args.gates.now c.loop-terms.terms-index c.terms-item.result c.loop-terms.first c.terms_literal.result c.earliest-first.result
    (omega arith) c.terms-item.is c.loop-terms.invariant c.terms_literal.ensures c.earliest-first.ensures
