use Rattle.std.proofs.Common.{◌≡◌, [], ◌++◌, drop, map}
use Rattle.std.specs.List.{enumerate_from, flat_map}
use Rattle.instance_rules.specs.Links.{ordered_link, ports_of}
use Rattle.module_parts.specs.Parts.{port_runs}
use Rattle.module_parts.proofs.connections.values_runs.Given as goal

abbrev pub invariant-loop-index : goal.invariant-loop-index
invariant-loop-index l =
    l.list.items
    ++ flat_map (λ value. map (port_runs (ports_of l.tables [] l.master)) (ordered_link value)) (enumerate_from l.index (drop l.index l.values))
    ≡ map (port_runs (ports_of l.tables [] l.master)) (flat_map ordered_link (enumerate_from 0 l.values))
