use Rattle.std.proofs.Common.{◌≡◌, map, take}
use Rattle.module_parts.specs.Parts.{terminal_runs}
use Rattle.module_parts.proofs.gates.terminal_list.Given as goal

abbrev pub invariant-loop-terminal : goal.invariant-loop-terminal
invariant-loop-terminal l = l.list ≡ map terminal_runs (take l.terminal-index l.terminals)
