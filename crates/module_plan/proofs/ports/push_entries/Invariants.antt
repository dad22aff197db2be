use Rattle.std.proofs.Common.{◌≡◌, ◌+◌, ◌++◌, drop, map}
use Rattle.std.specs.List.{enumerate_from}
use Rattle.module_ports.specs.Ports.{entry_name}
use Rattle.netlist_plan.specs.Plan.{port_bits}
use Rattle.module_plan.proofs.ports.push_entries.Given as goal

abbrev pub invariant-loop-index : goal.invariant-loop-index
invariant-loop-index l =
    l.list ++ map (port_bits l.scope l.nets) (enumerate_from (l.index + 1) (map (λ name. name.text) (map entry_name (drop l.index l.others))))
    ≡ l.initial.list ++ map (port_bits l.scope l.nets) (enumerate_from 1 (map (λ name. name.text) (map entry_name l.others)))
