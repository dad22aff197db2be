use Rattle.std.proofs.Common.{◌∙◌}
use Rattle.vector_text.proofs.BindingLemmas.{no_flags, flags_more}
use Rattle.vector_text.proofs.inputs.net_flags.Goals as goal

pub loop-net-init : goal.loop-net-init
loop-net-init c = c.in_ok-flags.ensures ∙ no_flags c.args.count

pub loop-net-preserved : goal.loop-net-preserved
loop-net-preserved c = flags_more c.args.nets.now c.args.count c.loop-net.net-index c.loop-net.flags.items c.loop-net-test.true (c.requires c.loop-net.net-index 0 c.loop-net-test.true) c.loop-net.invariant
