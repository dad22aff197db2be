use Rattle.std.proofs.Common.{◌≡◌, ◌++◌, drop, map}
use Rattle.std.specs.List.{enumerate_from}
use Rattle.netlist_plan.specs.Plan.{port_bits}
use Rattle.module_plan.proofs.ports.push_names.Given as goal

abbrev pub invariant-loop-port : goal.invariant-loop-port
invariant-loop-port l =
    l.list ++ map (port_bits l.scope l.nets) (enumerate_from l.port (map (λ name. name.text) (drop l.port l.names)))
    ≡ l.initial.list ++ map (port_bits l.scope l.nets) (enumerate_from 0 (map (λ name. name.text) l.names))
