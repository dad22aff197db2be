use Rattle.std.proofs.Common.{◌≡◌, true, false, is_some, sym, ap, map, List, ℕ, ◌∙◌}
use Rattle.name_table.specs.Names.{is_distinct}
use Rattle.flat_net.proofs.NameLemmas.{Decides-is_distinct}
use Rattle.flat_net.proofs.flat.distinct_table.Goals as goal

pub unreachable-requires : goal.unreachable-requires
unreachable-requires g c =
    let names : List (List ℕ) = map g.N.Named.name c.args.named.now in
    let once : is_distinct names ≡ true = (Decides-is_distinct names).1 c.requires in
    let never : false ≡ true = sym (ap is_some c.in-None.is) ∙ c.in_ok-table.ensures.distinct ∙ once in
    cc
