use Rattle.std.proofs.Common.{[], map}
use Rattle.module_graph.proofs.TokenLaws.{HasTokens-none}
use Rattle.module_graph.proofs.repeated.first_tokens.Goals as goal

pub returns : goal.returns
returns c = c.in_ok-put_udps.ensures.tokens (map (λ m. m.name) c.args.modules.now) (c.in_ok-put_modules.ensures.tokens [] (HasTokens-none c.new-table.result c.new-table.ensures.empty))
