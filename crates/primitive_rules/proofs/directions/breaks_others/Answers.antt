use Rattle.std.proofs.Common.{◌≡◌, ap, ◌∙◌, arith}
use Rattle.primitive_rules.specs.declared.counts.NameCounts.{NameCounts}
use Rattle.primitive_rules.specs.Counting.{count_names, no_counts}
use Rattle.primitive_rules.specs.Ports.{header_names}
use Rattle.primitive_rules.proofs.Parts.{breaks_others_counted}
use Rattle.primitive_rules.proofs.directions.breaks_others.Goals.{then-header_has_other, else-header_has_other}
use Rattle.primitive_rules.proofs.directions.breaks_others.Goals as goal

pub returns : goal.returns
returns c =
    let counted : c.count_header.new.counts ≡ count_names no_counts (header_names c.args.udp.now.ports) = c.in_ok-count_header.ensures ∙ ap (λ (d : NameCounts). count_names d (header_names c.args.udp.now.ports)) c.new-counts.ensures in
    let parts = breaks_others_counted c.first_port-first.result.now c.count_header.new.counts c.args.udp.now c.first_port-first.ensures counted in
    elim c.if-header_has_other.branch [
      | then-header_has_other w ↦ grind (arith, parts, w.if-header_has_other, w.result-is, c.header_has_other.ensures)
      | else-header_has_other w ↦ grind (arith, parts, w.if-header_has_other, w.result-is, c.header_has_other.ensures, w.items_have_other.ensures, w.as_slice.ensures)
    ]
