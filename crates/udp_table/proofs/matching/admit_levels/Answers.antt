use Rattle.udp_table.proofs.MatchingLemmas.{level_inputs-short, level_inputs_parts, level_inputs_first}
use Rattle.udp_table.proofs.matching.admit_levels.Goals as goal

pub returns-then-symbols-n : goal.returns-then-symbols-n
returns-then-symbols-n c = level_inputs-short _ _ _ c.if-symbols-n.true

pub returns-then-not-hold : goal.returns-then-not-hold
returns-then-not-hold c = level_inputs_first _ _ _ c.if-symbols-n.false _ c.hold.ensures c.if-not-hold.true

pub returns : goal.returns
returns c = level_inputs_parts _ _ _ c.if-symbols-n.false _ _ c.hold.ensures c.if-not-hold.false c.hold-2.ensures
