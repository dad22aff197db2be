use Rattle.std.proofs.Common.{◌≡◌, drop}
use Rattle.gate_net.specs.Steps.{each}
use Rattle.first_netlist.specs.Form.{terminal_of}
use Rattle.first_netlist.proofs.Each.{with_front}
use Rattle.first_netlist.proofs.form.terminals_of.Given as goal

abbrev pub invariant-loop-expr : goal.invariant-loop-expr
invariant-loop-expr l = each terminal_of l.exprs ≡ with_front l.nets.items (each terminal_of (drop l.expr-index l.exprs))
