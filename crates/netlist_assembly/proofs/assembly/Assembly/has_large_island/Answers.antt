use Rattle.std.proofs.Common.{ap, ◌∙◌}
use Rattle.std.specs.List.{list_any}
use Rattle.net_islands.specs.declared.parts.Grouping.{Grouping}
use Rattle.netlist_plan.specs.Additions.{Additions}
use Rattle.netlist_meaning.specs.Limits.{is_large, islands_of}
use Rattle.netlist_assembly.proofs.assembly.Assembly.has_large_island.Goals as goal

pub returns : goal.returns
returns c =
    c.has_large.ensures
    ∙ ap (list_any is_large) (c.as_slice.ensures ∙ ap (λ (g : Grouping). g.islands) c.self.invariant.grouping)
    ∙ ap (λ (a : Additions). list_any is_large (islands_of a)) c.self.view_is
