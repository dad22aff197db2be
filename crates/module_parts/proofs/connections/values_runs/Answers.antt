use Rattle.std.proofs.Common.{ℕ, ◌+◌, List, [], ◌++◌, drop, map, Option, sym, ap, ◌∙◌}
use Rattle.std.specs.List.{enumerate_from, flat_map}
use Rattle.v_tree.specs.declared.expressions.Expr.{Expr}
use Rattle.instance_rules.specs.Links.{ordered_link, ports_of}
use Rattle.module_parts.specs.declared.parts.PortRuns.{PortRuns}
use Rattle.module_parts.specs.Parts.{port_runs}
use Rattle.module_parts.proofs.Walking.{map-flat_map, seen_all, seen_more}
use Rattle.module_parts.proofs.connections.values_runs.Goals as goal

pub loop-index-init : goal.loop-index-init
loop-index-init c =
    let at_port = port_runs (ports_of c.args.tables.now [] c.args.master) in
    let all = enumerate_from 0 c.args.values.now in
    ap (λ (list : List PortRuns). list ++ flat_map (λ value. map at_port (ordered_link value)) all) c.new-list.ensures.items
    ∙ sym (map-flat_map at_port ordered_link all)

pub loop-index-preserved : goal.loop-index-preserved
loop-index-preserved c =
    let at_port = port_runs (ports_of c.args.tables.now [] c.args.master) in
    let values = c.args.values.now in
    let index = c.loop-index.index in
    let runs = λ (value : ℕ × Option Expr). map at_port (ordered_link value) in
    ap (λ (list : List PortRuns). list ++ flat_map runs (enumerate_from (index + 1) (drop (index + 1) values))) c.in_ok-push_value.ensures
    ∙ seen_more runs values index c.loop-index.list.items (map at_port (flat_map ordered_link (enumerate_from 0 values))) c.loop-index.invariant
    c.index-values-index.result c.loop-index-test.true (sym c.index-values-index.is)

pub returns : goal.returns
returns c =
    let at_port = port_runs (ports_of c.args.tables.now [] c.args.master) in
    let values = c.args.values.now in
    seen_all (λ (value : ℕ × Option Expr). map at_port (ordered_link value)) values c.loop-index.index c.loop-index.list.items
    (map at_port (flat_map ordered_link (enumerate_from 0 values))) c.loop-index.invariant c.loop-index-test.false
