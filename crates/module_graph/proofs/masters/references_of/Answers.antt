use Rattle.std.proofs.Common.{◌≡◌, List, subst}
use Rattle.std.specs.Prelude.{IfOk}
use Rattle.module_graph.specs.declared.references.Reference.{Reference}
use Rattle.module_graph.specs.Graph.{module_names, udp_names}
use Rattle.module_graph.proofs.MasterLaws.{references_same}
use Rattle.module_graph.proofs.masters.references_of.Goals as goal

pub returns : goal.returns
returns c = subst (λ (rs : List (List Reference)). IfOk c.references_by.result (λ lists. lists ≡ rs))
    (references_same (module_names c.args.modules.now) (udp_names c.args.udps.now) c.in_ok-masters.masters c.args.modules.now c.in_ok-masters.ensures) c.references_by.ensures
