use Rattle.std.proofs.Common.{ℕ, List, [], ◌∷◌, ◌++◌, take, sym, ap, ◌∙◌, arith}
use Rattle.item_parts.specs.Widths.{net_range, range_width}
use Rattle.plan_counts.specs.PortWidths.{port_widths}
use Rattle.plan_counts.proofs.NetLaws.{widths-more}
use Rattle.plan_counts.proofs.ports.port_widths.Goals as goal

pub loop-index-preserved : goal.loop-index-preserved
loop-index-preserved c =
    c.in_ok-push.ensures.items
    ∙ ap (λ (widths : List ℕ). widths ++ c.net_width.result ∷ []) c.loop-index.invariant
    ∙ ap (λ (width : ℕ). port_widths (take c.loop-index.index c.args.table.now) ++ width ∷ [])
    (c.net_width.ensures ∙ ap (λ net. range_width (net_range net)) c.net_at.ensures)
    ∙ sym (widths-more c.args.table.now c.loop-index.index (omega (arith, c.loop-index-test.true, c.len-index-end.ensures)))
