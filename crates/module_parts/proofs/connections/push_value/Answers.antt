use Rattle.std.proofs.Common.{[], ◌∷◌, ◌++◌, map, Option, ap, sym, ◌∙◌}
use Rattle.v_tree.specs.declared.expressions.Expr.{Expr}
use Rattle.item_parts.specs.Literals.{location_of}
use Rattle.instance_rules.specs.Links.{ordered_link, ports_of}
use Rattle.module_parts.specs.declared.parts.PortRuns.{PortRuns}
use Rattle.module_parts.specs.Parts.{port_runs}
use Rattle.module_parts.proofs.connections.push_value.Goals as goal

pub returns-in_ok-push : goal.returns-in_ok-push
returns-in_ok-push c =
    let before = c.args.list.now.items in
    let ports = ports_of c.args.tables.now [] c.args.master in
    c.in_ok-push.ensures.items
    ∙ ap (λ (runs : PortRuns). before ++ runs ∷ []) (c.in_ok-port_runs.ensures (location_of c.in-Some.expr))
    ∙ ap (λ (value : Option Expr). before ++ map (port_runs ports) (ordered_link (c.args.index, value))) (sym c.in-Some.is)
