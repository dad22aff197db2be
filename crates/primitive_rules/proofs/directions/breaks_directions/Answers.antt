use Rattle.std.proofs.Common.{Bool, List, ap, not, ◌∙◌}
use Rattle.std.specs.List.{list_any}
use Rattle.v_tree.specs.declared.locations.Name.{Name}
use Rattle.primitive_rules.specs.declared.counts.NameCounts.{NameCounts}
use Rattle.primitive_rules.specs.Counting.{came_once}
use Rattle.primitive_rules.specs.Ports.{header_names}
use Rattle.primitive_rules.proofs.Parts.{breaks_directions_counted}
use Rattle.primitive_rules.proofs.directions.breaks_directions.Goals as goal

pub returns : goal.returns
returns c =
    c.is_any_port_not_once.ensures
    ∙ (ap (λ (counts : NameCounts). list_any (λ (port : Name). not (came_once counts port.text)) (header_names c.args.udp.now.ports)) c.in_ok-counts.ensures
    ∙ breaks_directions_counted c.args.udp.now)
