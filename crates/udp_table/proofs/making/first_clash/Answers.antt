use Rattle.std.proofs.Common.{◌∙◌, sym}
use Rattle.udp_table.proofs.ClashLemmas.{first_clash-Some, first_clash-None}
use Rattle.udp_table.proofs.making.first_clash.Goals as goal

pub returns-in-Some : goal.returns-in-Some
returns-in-Some c =
    first_clash-Some _ _ _ c.loop-i-test.true c.index-rows-i.is c.loop-i.invariant _ (sym c.first_clashing.ensures ∙ c.in-Some.is)

pub loop-i-preserved : goal.loop-i-preserved
loop-i-preserved c =
    first_clash-None _ _ _ c.loop-i-test.true c.index-rows-i.is c.loop-i.invariant (sym c.first_clashing.ensures ∙ c.in_default.is)
