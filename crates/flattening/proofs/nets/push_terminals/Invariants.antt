use Rattle.std.proofs.Common.{◌≡◌, ◌++◌, map, take}
use Rattle.flattening.specs.Spelled.{terminal_number}
use Rattle.flattening.proofs.nets.push_terminals.Given as goal

abbrev pub invariant-loop-terminal : goal.invariant-loop-terminal
invariant-loop-terminal l = l.list.items ≡ l.initial.list.items ++ map (terminal_number l.at) (take l.terminal-index l.terminals)
