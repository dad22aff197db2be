use Rattle.std.proofs.Common.{ℕ, [], ◌∷◌, ◌++◌, map, Option, ap, sym, ◌∙◌}
use Rattle.v_tree.specs.declared.expressions.Expr.{Expr}
use Rattle.instance_rules.specs.Links.{optional_link, ports_of, named_port}
use Rattle.module_parts.specs.declared.parts.PortRuns.{PortRuns}
use Rattle.module_parts.specs.Parts.{port_runs}
use Rattle.module_parts.proofs.connections.push_connection.Goals as goal

pub returns-in_ok-push : goal.returns-in_ok-push
returns-in_ok-push c =
    let before = c.args.list.now.items in
    let ports = ports_of c.args.tables.now [] c.args.master in
    let place = c.args.connection.now.location in
    let expr = c.in-Some.expr in
    let port = c.named_port-port.ensures [] ∙ ap (named_port ports c.args.index) c.as_slice.ensures in
    c.in_ok-push.ensures.items
    ∙ ap (λ (runs : PortRuns). before ++ runs ∷ []) (c.in_ok-port_runs.ensures place)
    ∙ ap (λ (p : Option ℕ). before ++ port_runs ports (record { port = p; place = place; value = expr }) ∷ []) port
    ∙ ap (λ (value : Option Expr). before ++ map (port_runs ports) (optional_link (named_port ports c.args.index c.args.connection.now.port.text) place value)) (sym c.in-Some.is)
