use Rattle.std.proofs.Common.{arith}
use Rattle.gate_rules.specs.Rules.{terminal_widths}
use Rattle.item_parts.proofs.Firsts.{next_first}
use Rattle.gate_rules.proofs.widths.terminals_width.Goals as goal

pub loop-terminal-preserved : goal.loop-terminal-preserved
loop-terminal-preserved c =
    next_first (terminal_widths c.args.scope.now) c.args.terminals.now c.loop-terminal.terminal-index c.terminal-item.result c.loop-terminal.first c.terminal_width.result c.earliest-first.result
    (omega arith) c.terminal-item.is c.loop-terminal.invariant c.terminal_width.ensures c.earliest-first.ensures
