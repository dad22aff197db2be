use Rattle.std.proofs.Common.{ℕ, ◌+◌, List, [], ◌++◌, drop, map, sym, ap, ◌∙◌}
use Rattle.std.specs.List.{enumerate_from, flat_map}
use Rattle.v_tree.specs.declared.gates.Connection.{Connection}
use Rattle.instance_rules.specs.Links.{named_link, ports_of}
use Rattle.module_parts.specs.declared.parts.PortRuns.{PortRuns}
use Rattle.module_parts.specs.Parts.{port_runs}
use Rattle.module_parts.proofs.Walking.{map-flat_map, seen_all, seen_more}
use Rattle.module_parts.proofs.connections.connections_runs.Goals as goal

pub loop-index-init : goal.loop-index-init
loop-index-init c =
    let ports = ports_of c.args.tables.now [] c.args.master in
    let at_port = port_runs ports in
    let all = enumerate_from 0 c.args.connections.now in
    ap (λ (list : List PortRuns). list ++ flat_map (λ connection. map at_port (named_link ports connection)) all) c.new-list.ensures.items
    ∙ sym (map-flat_map at_port (named_link ports) all)

pub loop-index-preserved : goal.loop-index-preserved
loop-index-preserved c =
    let ports = ports_of c.args.tables.now [] c.args.master in
    let at_port = port_runs ports in
    let connections = c.args.connections.now in
    let index = c.loop-index.index in
    let runs = λ (connection : ℕ × Connection). map at_port (named_link ports connection) in
    ap (λ (list : List PortRuns). list ++ flat_map runs (enumerate_from (index + 1) (drop (index + 1) connections))) c.in_ok-push_connection.ensures
    ∙ seen_more runs connections index c.loop-index.list.items (map at_port (flat_map (named_link ports) (enumerate_from 0 connections))) c.loop-index.invariant
    c.index-connections-index.result c.loop-index-test.true (sym c.index-connections-index.is)

pub returns : goal.returns
returns c =
    let ports = ports_of c.args.tables.now [] c.args.master in
    let at_port = port_runs ports in
    let connections = c.args.connections.now in
    seen_all (λ (connection : ℕ × Connection). map at_port (named_link ports connection)) connections c.loop-index.index c.loop-index.list.items
    (map at_port (flat_map (named_link ports) (enumerate_from 0 connections))) c.loop-index.invariant c.loop-index-test.false
