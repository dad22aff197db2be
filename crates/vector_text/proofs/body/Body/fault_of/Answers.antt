use Rattle.std.proofs.Common.{◌≡◌, false}
use Rattle.vector_text.specs.Written.{passes_limit}
use Rattle.vector_text.proofs.BodyLemmas.{within-from, small-from}
use Rattle.vector_text.proofs.body.Body.fault_of.Goals as goal

pub breaks_order-requires : goal.breaks_order-requires
breaks_order-requires c =
    let within : passes_limit c.args.version c.args.self.now c.args.said.now ≡ false = cc in
    small-from c.args.self.now c.args.said.now (within-from c.args.version c.args.self.now c.args.said.now c.requires within)
