use Rattle.std.proofs.Common.{◌≡◌, take}
use Rattle.plan_counts.specs.PortWidths.{port_widths}
use Rattle.plan_counts.proofs.ports.port_widths.Given as goal

abbrev pub invariant-loop-index : goal.invariant-loop-index
invariant-loop-index l = l.widths.items ≡ port_widths (take l.index l.table)
