use Rattle.std.proofs.Common.{sym, ◌∙◌}
use Rattle.vector_text.proofs.BodyLemmas.{within-from, stands-from_none}
use Rattle.vector_text.proofs.body.Body.read_said.Goals as goal

pub write-requires-clause-limit : goal.write-requires-clause-limit
write-requires-clause-limit c =
    within-from c.args.version c.args.self c.args.said c.requires (stands-from_none c.args.version c.args.self c.from.result c.args.said (sym c.fault_of.ensures ∙ c.in-None.is)).1
