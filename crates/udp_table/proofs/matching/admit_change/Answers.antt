use Rattle.udp_table.proofs.MatchingLemmas.{edge_inputs-short, edge_inputs_parts, edge_inputs_first, edge_inputs_second}
use Rattle.udp_table.proofs.matching.admit_change.Goals as goal

pub returns-then-symbols-n : goal.returns-then-symbols-n
returns-then-symbols-n c = edge_inputs-short _ _ _ _ _ c.if-symbols-n.true

pub returns-then-not-has_change : goal.returns-then-not-has_change
returns-then-not-has_change c =
    edge_inputs_first _ _ _ _ _ _ c.if-symbols-n.false c.requires _ c.has_change.ensures c.if-not-has_change.true

pub returns-then-not-hold : goal.returns-then-not-hold
returns-then-not-hold c =
    edge_inputs_second _ _ _ _ _ _ c.if-symbols-n.false c.requires _ c.has_change.ensures _ c.if-not-has_change.false c.hold.ensures c.if-not-hold.true

pub returns : goal.returns
returns c =
    edge_inputs_parts _ _ _ _ _ _ c.if-symbols-n.false c.requires _ c.has_change.ensures _ _ c.if-not-has_change.false c.hold.ensures c.if-not-hold.false c.hold-2.ensures
