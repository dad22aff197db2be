use Rattle.std.proofs.Common.{arith}
use Rattle.gate_rules.specs.Rules.{literal_places}
use Rattle.item_parts.proofs.Firsts.{next_first}
use Rattle.gate_rules.proofs.literals.outputs_literal.Goals as goal

pub loop-terminal-preserved : goal.loop-terminal-preserved
loop-terminal-preserved c =
    next_first literal_places c.args.terminals.now c.loop-terminal.terminal-index c.terminal-item.result c.loop-terminal.first c.literal_place.result c.earliest-first.result
    (omega arith) c.terminal-item.is c.loop-terminal.invariant c.literal_place.ensures c.earliest-first.ensures
