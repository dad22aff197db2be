use Rattle.std.proofs.Common.{length, ap, ◌∙◌}
use Rattle.module_graph.specs.Graph.{Graph}
use Rattle.netlist_scopes.specs.Scopes.{reached_from}
use Rattle.netlist_scopes.proofs.ScopeLaws.{length-reached_from}
use Rattle.netlist_scopes.proofs.scopes.Scopes.new.Goals as goal

pub scopes_with-requires : goal.scopes_with-requires
scopes_with-requires c =
    ap length (c.in_ok-reached.ensures ∙ ap (λ (g : Graph). reached_from g c.top-top.result) c.in_ok-graph.ensures)
    ∙ length-reached_from c.args.file.now.modules c.args.file.now.udps c.top-top.result
